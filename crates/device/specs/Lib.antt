-- Contents of specs/: the definitions that the contracts cite, their examples, and theorems.

-- The device as a value, and what each device call makes of it: 01, "The device (added)", in its order.
pub mod Device
-- The laws by which alone the pool speaks of a device.
pub mod AnyDevice
-- A slot's part of the bytes, and its block, where bytes are laid into a slot.
pub mod Slots
-- The calls of AnyDevice on the device of document 01.
pub mod Calls

-- The argument: a call that passes the table is the inner one (calls_gate, Inward), so each statement goes by what the inner call comes to
-- on the pool that the buffers hold.

-- A slot that is bound after releases in a row has kept its bytes: `mount_keeps_bytes`.
pub mod Keeps
-- What a write stored lies in the slot's part, and a read of it gives it: `what_was_written_is_read`.
pub mod Written
-- A header that was put whole is the slot's block: `what_was_synced_is_found`.
pub mod Synced
-- A header read of a blank slot says nothing, whole or cut short: `blank_card`.
pub mod Blank
-- The premises of each statement can be met: small cards on which the calls are worked out.
pub mod Examples

-- Calls that antt computes: each refusal, and calls that answer 0, on which the theorems of SlotOutcomes speak.
use Rattle.std.specs.Prelude.{ℕ, ◌≡◌, refl, false, [], ◌∷◌, replicate}
use Rattle.lists.specs.Runs.{all_of}
use Rattle.text.specs.Text.{lead_of, lead_of3, lead_of4, step_of, walk_of, is_text}
use Rattle.header.specs.Block.{fixed, encoded}
use Rattle.device.specs.declared.Geometry.{Geometry}
use Rattle.device.specs.Device.{Dev, dev, shape_b, turn, onward, share, short, stores, stops, seen, read_m, write_m, flushed, flush_m}
use Rattle.device.specs.Device.{header_write_m, data_read_m, data_write_m}
use Rattle.device_lent.specs.Put.{put_m}
use Rattle.slot_calls.specs.SlotCalls.{slot_refusal, read_slot_m, write_slot_m, sync_slot_m, flush_slot_m}

abbrev sized : ℕ → Geometry
sized n = record { size = n }

-- A device of no slot, and one of an empty slot of n bytes; its place is at the plan's start.
abbrev slotless : Dev
slotless = dev [] [] (record { at = 0; last = 0 })

abbrev one : ℕ → Dev
one n = dev (replicate n 0) (0 ∷ []) (record { at = 0; last = 0 })

-- 2: no device has slots of no bytes
wrong_size : (flush_slot_m [] (sized 0) 0 slotless).number ≡ 2
unfolding flush_slot_m slot_refusal shape_b
wrong_size = refl

-- 3 comes before 6, and so does 4
no_text_lem : (sync_slot_m [] (sized 512) 0 1 (0x80 ∷ []) 0 1 slotless).number ≡ 3
unfolding sync_slot_m slot_refusal shape_b all_of is_text walk_of step_of lead_of lead_of3 lead_of4
no_text_lem = refl

too_long_lem : (sync_slot_m [] (sized 512) 0 1 (replicate 481 97) 0 1 slotless).number ≡ 4
unfolding sync_slot_m slot_refusal shape_b all_of is_text walk_of step_of lead_of lead_of3 lead_of4
too_long_lem = refl

-- 6: the first slot behind the last, and one far beyond
behind_last : (flush_slot_m [] (sized 512) 1 (one 512)).number ≡ 6
unfolding flush_slot_m slot_refusal shape_b all_of is_text walk_of
behind_last = refl

far_beyond : (flush_slot_m [] (sized 512) 18446744073709551615 (one 512)).number ≡ 6
unfolding flush_slot_m slot_refusal shape_b all_of is_text walk_of
far_beyond = refl

-- a place past u64 is beyond the slot: 0 bytes, and a device call all the same, which plan byte 1 fails
past_all : (read_slot_m (0 ∷ []) (sized 512) 0 18446744073709551615 (9 ∷ []) (one 512)).dev.place ≡ record { at = 1; last = 0 }
unfolding read_slot_m slot_refusal shape_b all_of is_text walk_of data_read_m read_m seen turn onward
past_all = refl

past_all_fails : (read_slot_m (1 ∷ []) (sized 512) 0 18446744073709551615 (9 ∷ []) (one 512)).number ≡ 10
unfolding read_slot_m slot_refusal shape_b all_of is_text walk_of data_read_m read_m seen turn onward
past_all_fails = refl

-- a write that answers 0, and a plan that leaves the read after it alone
writes : (write_slot_m [] (sized 1024) 0 2 (7 ∷ 8 ∷ []) (one 1024)).number ≡ 0
unfolding write_slot_m slot_refusal shape_b all_of is_text walk_of data_write_m write_m turn onward share short stores
writes = refl

reads_alone : stops (turn [] (write_slot_m [] (sized 1024) 0 2 (7 ∷ 8 ∷ []) (one 1024)).dev.place) ≡ false
unfolding write_slot_m slot_refusal shape_b all_of is_text walk_of data_write_m write_m turn onward stops
reads_alone = refl

-- a sync that answers 0; one whose header is cut short takes one plan byte, and comes to 11
syncs : (sync_slot_m [] (sized 512) 0 1 (97 ∷ []) 5 1 (one 512)).number ≡ 0
unfolding sync_slot_m slot_refusal shape_b all_of is_text walk_of step_of lead_of lead_of3 lead_of4
    put_m header_write_m write_m turn onward share short stores flush_m flushed stops encoded fixed
syncs = refl

cut_short : (sync_slot_m (2 ∷ 0 ∷ []) (sized 512) 0 1 (97 ∷ []) 5 1 (one 512)).dev.place ≡ record { at = 1; last = 11 }
unfolding sync_slot_m slot_refusal shape_b all_of is_text walk_of step_of lead_of lead_of3 lead_of4
    put_m header_write_m write_m turn onward share short stores flush_m flushed stops encoded fixed
cut_short = refl

-- All that specs/Promises.antt promises.
use Rattle.calls_gate.proofs.Promises.{looks_leave}
use Rattle.promises_calls.proofs.Keeps.{mount_keeps_bytes}
use Rattle.calls_gate.proofs.Refusals.{a_refusal_changes_nothing}
use Rattle.promises_calls.proofs.Blank.{blank_card}
use Rattle.promises_calls.proofs.Written.{what_was_written_is_read}
use Rattle.promises_calls.proofs.Synced.{what_was_synced_is_found}
use Rattle.promises_handles.proofs.HandleCalls.{stale_gets_six, opens_give}
use Rattle.promises_handles.proofs.Theorems.{reopen_keeps, remove_makes_stale, rename_makes_stale, done_rename_has_put, failed_rename_keeps}
use Rattle.promises_handles.proofs.Theorems.{stale_stays, stale_for_good}
use Rattle.promises_mount.proofs.Adopt.{untouched_exactly}
use Rattle.promises.specs.Promises.{Promises}
use Rattle.promises.proofs.Face.{face_is_flat, face_decides}
use Rattle.promises.proofs.Total.{every_call_ends}
use Rattle.promises.proofs.Demand3.{mount_rule, faultless_is_quiet, demand_3}
use Rattle.promises.proofs.Stays.{a_pool_stays_a_pool, a_mount_makes_a_pool}
use Rattle.promises.proofs.Table.{table_p, from_blank}
use Rattle.promises.proofs.Incident.{the_cleaned_tile_wins}

pub promises : Promises
promises = record {
  the_cleaned_tile_wins = the_cleaned_tile_wins;
  mount_rule = mount_rule;
  demand_3 = demand_3;
  untouched_exactly = untouched_exactly;
  faultless_is_quiet = faultless_is_quiet;
  table_p = table_p;
  from_blank = from_blank;
  every_call_ends = every_call_ends;
  face_decides = face_decides;
  face_is_flat = face_is_flat;
  a_pool_stays_a_pool = a_pool_stays_a_pool;
  a_mount_makes_a_pool = a_mount_makes_a_pool;
  mount_keeps_bytes = mount_keeps_bytes;
  blank_card = blank_card;
  what_was_written_is_read = what_was_written_is_read;
  what_was_synced_is_found = what_was_synced_is_found;
  a_refusal_changes_nothing = a_refusal_changes_nothing;
  looks_leave = looks_leave;
  stale_gets_six = stale_gets_six;
  opens_give = opens_give;
  reopen_keeps = reopen_keeps;
  failed_rename_keeps = failed_rename_keeps;
  rename_makes_stale = rename_makes_stale;
  done_rename_has_put = done_rename_has_put;
  remove_makes_stale = remove_makes_stale;
  stale_stays = stale_stays;
  stale_for_good = stale_for_good;
}

-- What is promised of the pool: the one page to read. Each line is a theorem by name, under the customer's sentence, with the statement
-- that it proves; the words of a statement stand in the file that its `use` line names. proofs/Promises.antt proves all of them at once:
-- `promises`.
--
-- The calls are those of `pool::call`. What stands under "the rest" is said of the flat call under it, on the records' numbers, which the
-- face is by `face_is_flat`. That the contracts of both, and of every exported call, are what is spoken of here is computed in crate
-- promises_tied; examples in which the premises hold are computed in crate promises_witness, and beside the statements of "the rest".
use Rattle.calls_gate.specs.Promises.{LooksLeave}
use Rattle.promises_calls.specs.Mounts.{MountKeepsBytes}
use Rattle.calls_gate.specs.Refusals.{ARefusalChangesNothing}
use Rattle.promises_calls.specs.Blank.{BlankCard}
use Rattle.promises_calls.specs.Bytes.{WhatWasWrittenIsRead, WhatWasSyncedIsFound}
use Rattle.promises_handles.specs.Handles.{StaleGetsSix, OpensGive, ReopenKeeps, RemoveMakesStale, RenameMakesStale, DoneRenameHasPut}
use Rattle.promises_handles.specs.Handles.{FailedRenameKeeps, StaleStays, StaleForGood}
use Rattle.promises_mount.specs.Words.{UntouchedExactly}
use Rattle.promises.specs.Face.{FaceIsFlat, EveryCallEnds, FaceDecides}
use Rattle.promises.specs.Demand3.{MountRule, FaultlessIsQuiet, Demand3}
use Rattle.promises.specs.Stays.{APoolStaysAPool, AMountMakesAPool}
use Rattle.promises.specs.Edges.{TableP, FromBlank}
use Rattle.promises.specs.Incident.{TheCleanedTileWins}

pub record Promises : Type 0 where
  -- THE INCIDENT. "A store that once kept the raw tile had a section issued with a basement that nobody built." Two slots claim one name,
  -- the raw tile and, under a higher generation, the cleaned one; no third does. After a mount that is accepted, whose header reads
  -- neither fail nor are cut short, open_read of either spelling gives the cleaned tile's slot and generation, file_len its length, and a
  -- read that the plan leaves alone exactly the bytes that lay in its slot before the mount, whatever fails while the raw tile is
  -- released.
  pub the_cleaned_tile_wins : TheCleanedTileWins
  -- DEMAND 3. "Each path claimed by a valid in-use header goes to its highest generation, lowest slot on a tie": of every accepted mount
  -- whose header reads neither fail nor are cut short.
  pub mount_rule : MountRule
  -- ".. mounting n slots and adopting the rest equals one mount, whatever writes, flushes or truncates fail; mounting again gives the
  -- same": files and directories, and the free slots where none fails. Mounting again is of either way, in one part or in two, under any
  -- plan. Premises: no header read fails or is cut short; the one mount is accepted; for mounting again, generations below 2^62, or no
  -- release failed.
  pub demand_3 : Demand3
  -- "Neither failed nor cut short" is said of plan bytes, and says exactly that: byte 1 fails a header read, and byte 2 cuts it short
  -- unless the slot is empty.
  pub untouched_exactly : UntouchedExactly
  -- In plan terms: where the plan has no byte 1 or 2 from the place on, no header read is touched and none of these fails.
  pub faultless_is_quiet : FaultlessIsQuiet
  -- BOTH SIDES OF EACH EDGE. "Proved together as one table (P)": P1 to P8.
  pub table_p : TableP
  -- On a blank card every path of at most 480 bytes opens whose ancestors fit.
  pub from_blank : FromBlank
  -- TOTAL, AND DECIDED. "For every input, refused ones too, a public call's contract determines its result and every buffer byte": there
  -- is an end that it allows, and "any two outcomes it allows are the same".
  pub every_call_ends : EveryCallEnds
  pub face_decides : FaceDecides
  -- The face comes to what the flat call comes to on the records' numbers.
  pub face_is_flat : FaceIsFlat
  -- A POOL STAYS A POOL. After any call but a refused mount a pool with its device is one again, so that the next call gets neither 1 nor
  -- 2.
  pub a_pool_stays_a_pool : APoolStaysAPool
  -- A mount that is done makes one, of whatever was lent.
  pub a_mount_makes_a_pool : AMountMakesAPool
  -- THE REST: THE CARD. A slot that a mount or an adoption leaves bound has the bytes and the physical length it had.
  pub mount_keeps_bytes : MountKeepsBytes
  -- A mount of k blank slots: no files, no directories, the k slots free in order, counter 1, device unchanged.
  pub blank_card : BlankCard
  -- A write of b that answers 0: reading that range gives b; every other byte below the old physical length stays, and every other slot.
  pub what_was_written_is_read : WhatWasWrittenIsRead
  -- A sync of a dirty file that answers 0: the slot's header decodes to exactly the row's path, generation and length.
  pub what_was_synced_is_found : WhatWasSyncedIsFound
  -- THE REST: WHAT IS LEFT BEHIND. 01's column "Left behind": every number but 0, 10 and 11 changes nothing but, after a mount's or an
  -- adoption's reads, the plan's place; a refused mount leaves record and rows zero.
  pub a_refusal_changes_nothing : ARefusalChangesNothing
  -- A call that neither writes nor mounts nor adopts leaves device, record and rows.
  pub looks_leave : LooksLeave
  -- THE REST: HANDLES. A stale handle gets 6 and changes nothing; an open that is done gives a live one.
  pub stale_gets_six : StaleGetsSix
  pub opens_give : OpensGive
  -- A truncating reopen leaves each live handle live; so does a rename whose own put fails.
  pub reopen_keeps : ReopenKeeps
  pub failed_rename_keeps : FailedRenameKeeps
  -- A rename between different paths whose own header was written and flushed makes the handles of `from` and of the old `to` stale, also
  -- if the target's release fails; remove too, also if its release fails. A rename that answers 0 has written and flushed it.
  pub rename_makes_stale : RenameMakesStale
  pub done_rename_has_put : DoneRenameHasPut
  pub remove_makes_stale : RemoveMakesStale
  -- A handle that was given out and is stale stays stale under any later calls but a mount.
  pub stale_stays : StaleStays
  pub stale_for_good : StaleForGood

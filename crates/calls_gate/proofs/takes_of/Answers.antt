-- Row by row.
use mathlib.Core.Path.{sym, ap, ◌∙◌}
use Rattle.calls_gate.specs.Table.{takes_of}
use Rattle.calls_gate.proofs.takes_of.Goals as goal

pub returns-in-Mount : goal.returns-in-Mount
unfolding takes_of
returns-in-Mount c =
    c.row.ensures ∙ sym (ap takes_of c.in-Mount.is)

pub returns-in-Adopt : goal.returns-in-Adopt
unfolding takes_of
returns-in-Adopt c =
    c.row-in-Adopt.ensures ∙ sym (ap takes_of c.in-Adopt.is)

pub returns-in-OpenWrite : goal.returns-in-OpenWrite
unfolding takes_of
returns-in-OpenWrite c =
    c.row-in-OpenWrite.ensures ∙ sym (ap takes_of c.in-OpenWrite.is)

pub returns-in-OpenRead : goal.returns-in-OpenRead
unfolding takes_of
returns-in-OpenRead c =
    c.row-in-OpenRead.ensures ∙ sym (ap takes_of c.in-OpenRead.is)

pub returns-in-ReadAt : goal.returns-in-ReadAt
unfolding takes_of
returns-in-ReadAt c =
    c.row-in-ReadAt.ensures ∙ sym (ap takes_of c.in-ReadAt.is)

pub returns-in-WriteAt : goal.returns-in-WriteAt
unfolding takes_of
returns-in-WriteAt c =
    c.row-in-WriteAt.ensures ∙ sym (ap takes_of c.in-WriteAt.is)

pub returns-in-SetLen : goal.returns-in-SetLen
unfolding takes_of
returns-in-SetLen c =
    c.row-in-SetLen.ensures ∙ sym (ap takes_of c.in-SetLen.is)

pub returns-in-FileLen : goal.returns-in-FileLen
unfolding takes_of
returns-in-FileLen c =
    c.row-in-FileLen.ensures ∙ sym (ap takes_of c.in-FileLen.is)

pub returns-in-Sync : goal.returns-in-Sync
unfolding takes_of
returns-in-Sync c =
    c.row-in-Sync.ensures ∙ sym (ap takes_of c.in-Sync.is)

pub returns-in-SyncDir : goal.returns-in-SyncDir
unfolding takes_of
returns-in-SyncDir c =
    c.row-in-SyncDir.ensures ∙ sym (ap takes_of c.in-SyncDir.is)

pub returns-in-Rename : goal.returns-in-Rename
unfolding takes_of
returns-in-Rename c =
    c.row-in-Rename.ensures ∙ sym (ap takes_of c.in-Rename.is)

pub returns-in-RemoveFile : goal.returns-in-RemoveFile
unfolding takes_of
returns-in-RemoveFile c =
    c.row-in-RemoveFile.ensures ∙ sym (ap takes_of c.in-RemoveFile.is)

pub returns-in-CreateDirAll : goal.returns-in-CreateDirAll
unfolding takes_of
returns-in-CreateDirAll c =
    c.row-in-CreateDirAll.ensures ∙ sym (ap takes_of c.in-CreateDirAll.is)

pub returns-in-ReadDir : goal.returns-in-ReadDir
unfolding takes_of
returns-in-ReadDir c =
    c.row-in-ReadDir.ensures ∙ sym (ap takes_of c.in-ReadDir.is)

pub returns-in-Exists : goal.returns-in-Exists
unfolding takes_of
returns-in-Exists c =
    c.row-in-Exists.ensures ∙ sym (ap takes_of c.in-Exists.is)

pub returns-in-Metadata : goal.returns-in-Metadata
unfolding takes_of
returns-in-Metadata c =
    c.row-in-Metadata.ensures ∙ sym (ap takes_of c.in-Metadata.is)

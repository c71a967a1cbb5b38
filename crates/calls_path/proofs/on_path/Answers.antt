-- One arm for each call: `ready` is what it needs, and `arm` says that the one that is asked for was made. No other call is on a path.
use Rattle.calls_gate.specs.Table.{takes_of}
use Rattle.calls_gate.specs.Calls.{opened, listed, inner_m}
use Rattle.calls_gate.proofs.Passed.{ready}
use Rattle.calls_gate.proofs.OnPath.{no_other}
use Rattle.calls_path.proofs.Arms.{arm, quiet_is, none_is, open_read_made, made_is, sync_dir_ready, sync_dir_made, remove_file_ready, remove_file_made, exists_ready, exists_made, metadata_ready, metadata_made}
use borrow.Author.Rules.{rules}
use mathlib.Core.Path.{refl, ap}
use Rattle.calls_path.proofs.on_path.Goals as goal

pub open_write-d-requires : goal.open_write-d-requires
unfolding takes_of
open_write-d-requires c =
    ready _ _ _ _ _ _ c.requires.passed c.in-OpenWrite.is refl

pub returns-in-OpenWrite : goal.returns-in-OpenWrite
unfolding inner_m
returns-in-OpenWrite c =
    arm _ _ _ _ _ _ _ _ _ c.in-OpenWrite.is (ap (opened c.args.buf.now) c.open_write-d.ensures)

pub open_read-d-requires : goal.open_read-d-requires
unfolding takes_of
open_read-d-requires c =
    (ready _ _ _ _ _ _ c.requires.passed c.in-OpenRead.is refl).pool

pub returns-in-OpenRead : goal.returns-in-OpenRead
returns-in-OpenRead c =
    open_read_made _ _ _ _ _ _ _ _ _ c.in-Some.is c.in-OpenRead.is c.open_read-d.ensures

pub returns-in_default-d : goal.returns-in_default-d
returns-in_default-d c =
    none_is _ _ _ _ _ _ _ _ _ _ c.quiet.ensures _
    (open_read_made _ _ _ _ _ _ _ _ _ c.in_default-d.is c.in-OpenRead.is c.open_read-d.ensures)

pub sync_dir-d-requires : goal.sync_dir-d-requires
sync_dir-d-requires c =
    search (rules, sync_dir_ready)

pub returns-in-SyncDir : goal.returns-in-SyncDir
returns-in-SyncDir c =
    search (rules, sync_dir_made)

pub rename-d-requires : goal.rename-d-requires
unfolding takes_of
rename-d-requires c =
    ready _ _ _ _ _ _ c.requires.passed c.in-Rename.is refl

pub returns-in-Rename : goal.returns-in-Rename
unfolding inner_m
returns-in-Rename c =
    arm _ _ _ _ _ _ _ _ _ c.in-Rename.is
    (quiet_is _ _ _ _ _ _ _ _ _ _ c.quiet-in-Rename.ensures _ c.rename-d.ensures)

pub remove_file-d-requires : goal.remove_file-d-requires
remove_file-d-requires c =
    search (rules, remove_file_ready)

pub returns-in-RemoveFile : goal.returns-in-RemoveFile
returns-in-RemoveFile c =
    search (rules, remove_file_made)

pub create_dir_all-d-requires : goal.create_dir_all-d-requires
unfolding takes_of
create_dir_all-d-requires c =
    (ready _ _ _ _ _ _ c.requires.passed c.in-CreateDirAll.is refl).pool

pub returns-in-CreateDirAll : goal.returns-in-CreateDirAll
unfolding inner_m
returns-in-CreateDirAll c =
    arm _ _ _ _ _ _ _ _ _ c.in-CreateDirAll.is
    (made_is _ _ _ _ _ _ _ _ _ _ c.quiet-in-CreateDirAll.ensures c.args.pool c.args.dirs.now _
    c.create_dir_all-d.ensures)

pub read_dir-d-requires : goal.read_dir-d-requires
unfolding takes_of
read_dir-d-requires c =
    (ready _ _ _ _ _ _ c.requires.passed c.in-ReadDir.is refl).pool

pub returns-in-ReadDir : goal.returns-in-ReadDir
unfolding inner_m
returns-in-ReadDir c =
    arm _ _ _ _ _ _ _ _ _ c.in-ReadDir.is (ap (listed _) c.read_dir-d.ensures)

pub exists-d-requires : goal.exists-d-requires
exists-d-requires c =
    search (rules, exists_ready)

pub returns-in-Exists : goal.returns-in-Exists
returns-in-Exists c =
    search (rules, exists_made)

pub metadata-d-requires : goal.metadata-d-requires
metadata-d-requires c =
    search (rules, metadata_ready)

pub returns-in-Metadata : goal.returns-in-Metadata
returns-in-Metadata c =
    metadata_made _ _ _ _ _ _ _ _ _ c.in-Some-d.is c.in-Metadata.is c.metadata-d.ensures

pub returns-in_default-d-2 : goal.returns-in_default-d-2
returns-in_default-d-2 c =
    none_is _ _ _ _ _ _ _ _ _ _ c.quiet-in_default-d-2.ensures _
    (metadata_made _ _ _ _ _ _ _ _ _ c.in_default-d-2.is c.in-Metadata.is c.metadata-d.ensures)

pub returns-in_default : goal.returns-in_default
returns-in_default c =
    let n = c.in_default in
    absurd (no_other _ n.not-OpenWrite n.not-OpenRead n.not-SyncDir n.not-Rename n.not-RemoveFile n.not-CreateDirAll n.not-ReadDir n.not-Exists n.not-Metadata c.requires.path)

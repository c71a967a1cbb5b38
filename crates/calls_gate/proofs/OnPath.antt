-- The table's column of paths, call by call: a match over the calls on a path leaves the other calls to its last arm, and the other match
-- leaves those on a path.
use Prim.Native.Nat.{ℕ}
use native.Mathlib.Omega.{arith}
use mathlib.Core.Path.{◌≡◌, refl}
use mathlib.Core.Bool.{Bool, true, false}
use Rattle.calls_gate.specs.declared.Call.{Call}
use Rattle.calls_gate.specs.declared.Call.TheVariants.{Mount, Adopt, OpenWrite, OpenRead, ReadAt, WriteAt, SetLen, FileLen}
use Rattle.calls_gate.specs.declared.Call.TheVariants.{Sync, SyncDir, Rename, RemoveFile, CreateDirAll, ReadDir, Exists, Metadata}
use Rattle.calls_gate.specs.declared.Opening.{Opening}
use Rattle.calls_gate.specs.Table.{takes_of}

-- A call that is none of the others is on a path.
pub is_on_path : (c : Call) → ((slots : ℕ) → c ≡ Mount slots → ⊥) → ((slots : ℕ) → c ≡ Adopt slots → ⊥)
    → ((slot generation pos : ℕ) → c ≡ ReadAt slot generation pos → ⊥)
    → ((slot generation pos : ℕ) → c ≡ WriteAt slot generation pos → ⊥)
    → ((slot generation len : ℕ) → c ≡ SetLen slot generation len → ⊥)
    → ((slot generation : ℕ) → c ≡ FileLen slot generation → ⊥)
    → ((slot generation : ℕ) → c ≡ Sync slot generation → ⊥) → (takes_of c).first ≡ true
unfolding takes_of
is_on_path (Mount slots) k _ _ _ _ _ _ = absurd (k slots refl)
is_on_path (Adopt slots) _ k _ _ _ _ _ = absurd (k slots refl)
is_on_path (OpenWrite how) _ _ _ _ _ _ _ = refl
is_on_path OpenRead _ _ _ _ _ _ _ = refl
is_on_path (ReadAt slot generation pos) _ _ k _ _ _ _ = absurd (k slot generation pos refl)
is_on_path (WriteAt slot generation pos) _ _ _ k _ _ _ = absurd (k slot generation pos refl)
is_on_path (SetLen slot generation len) _ _ _ _ k _ _ = absurd (k slot generation len refl)
is_on_path (FileLen slot generation) _ _ _ _ _ k _ = absurd (k slot generation refl)
is_on_path (Sync slot generation) _ _ _ _ _ _ k = absurd (k slot generation refl)
is_on_path SyncDir _ _ _ _ _ _ _ = refl
is_on_path Rename _ _ _ _ _ _ _ = refl
is_on_path RemoveFile _ _ _ _ _ _ _ = refl
is_on_path CreateDirAll _ _ _ _ _ _ _ = refl
is_on_path ReadDir _ _ _ _ _ _ _ = refl
is_on_path Exists _ _ _ _ _ _ _ = refl
is_on_path Metadata _ _ _ _ _ _ _ = refl

differs : ◌≡◌ {A = Bool} false true → ⊥
differs q = let y : ◌≡◌ {A = ℕ} 0 1 = cc in omega arith

-- No call but those nine is on a path.
pub no_other : (c : Call) → ((how : Opening) → c ≡ OpenWrite how → ⊥) → (c ≡ OpenRead → ⊥) → (c ≡ SyncDir → ⊥)
    → (c ≡ Rename → ⊥) → (c ≡ RemoveFile → ⊥) → (c ≡ CreateDirAll → ⊥) → (c ≡ ReadDir → ⊥)
    → (c ≡ Exists → ⊥) → (c ≡ Metadata → ⊥) → (takes_of c).first ≡ true → ⊥
unfolding takes_of
no_other (Mount slots) _ _ _ _ _ _ _ _ _ q = differs q
no_other (Adopt slots) _ _ _ _ _ _ _ _ _ q = differs q
no_other (OpenWrite how) k _ _ _ _ _ _ _ _ _ = k how refl
no_other OpenRead _ k _ _ _ _ _ _ _ _ = k refl
no_other (ReadAt slot generation pos) _ _ _ _ _ _ _ _ _ q = differs q
no_other (WriteAt slot generation pos) _ _ _ _ _ _ _ _ _ q = differs q
no_other (SetLen slot generation len) _ _ _ _ _ _ _ _ _ q = differs q
no_other (FileLen slot generation) _ _ _ _ _ _ _ _ _ q = differs q
no_other (Sync slot generation) _ _ _ _ _ _ _ _ _ q = differs q
no_other SyncDir _ _ k _ _ _ _ _ _ _ = k refl
no_other Rename _ _ _ k _ _ _ _ _ _ = k refl
no_other RemoveFile _ _ _ _ k _ _ _ _ _ = k refl
no_other CreateDirAll _ _ _ _ _ k _ _ _ _ = k refl
no_other ReadDir _ _ _ _ _ _ k _ _ _ = k refl
no_other Exists _ _ _ _ _ _ _ k _ _ = k refl
no_other Metadata _ _ _ _ _ _ _ _ k _ = k refl

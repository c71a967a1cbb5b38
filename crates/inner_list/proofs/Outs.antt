-- The ways out of read_dir: the parts that were picked stand for the listing of the pool's state.
use Prim.Native.Nat.{ℕ, ◌+◌, ◌*◌, ◌<◌, ◌≤◌}
use native.Mathlib.Omega.{arith}
use mathlib.Core.Path.{◌≡◌, refl, sym, ap, ap₂, ◌∙◌}
use mathlib.Core.Bool.{true, false}
use mathlib.Core.List.{List, [], ◌∷◌, ◌++◌, map}
use lib.ListN.{length, get_or, take, drop, replicate, length-append}
use lib.Seq.{sets, sets-eq, length-sets, take_at}
use borrow.Author.Tests.{le-leb, lt-leb}
use Rattle.limits.specs.Limits.{dir_width}
use Rattle.lists.specs.Blocks.{cat}
use Rattle.lists.specs.Runs.{range}
use Rattle.lists.specs.Sort.{keep, sort}
use Rattle.path.specs.Path.{is_parent}
use Rattle.slot_rows.specs.Rows.{Row, none, at, path_of, rows_of, Flat}
use Rattle.dir_rows.specs.Dirs.{has_path}
use Rattle.dir_rows.specs.Rows.{dirs_of, FlatDirs}
use Rattle.dir_rows.proofs.InBuffer.{dirs_long}
use Rattle.pool_state.specs.State.{Bufs, State, view, IsPool}
use Rattle.pool_state.specs.InBuffers.{pool_rows, pool_dirs}
use Rattle.row_order.specs.Spans.{spelled, AllInside, span_before, in_order, file_span, dir_span}
use Rattle.row_order.specs.InOrder.{spelled_sort}
use Rattle.row_order.specs.Picks.{picks_few, picks_inside, picked_rows, spell_each, file_inside, file_spelled, dir_inside, dir_spelled}
use Rattle.inner_list.specs.Listing.{is_child, files_in, dirs_in, entry, listing_of, listing, fitted, read_dir_m}
use Rattle.inner_list.specs.Parts.{child_files, child_dirs, entries, size_of}
use Rattle.inner_list.proofs.Ways.{child_files_lem, child_dirs_lem, size_few, entries_long, entries_sorted}

-- ---- the front of an array that parts were written to

pub record Front (w : List ℕ) (count : ℕ) (l : List ℕ) : Type 0 where
  pub fits : count ≤ length l
  pub is : take count l ≡ w
  pub long : count ≡ length (take count l)
  pub few : length (take count l) ≤ 256

sets_front : (w l : List ℕ) → length w ≤ length l → sets l 0 w ≡ w ++ drop (length w) l
sets_front w l h = let z : 0 + length w ≡ length w = omega arith in sets-eq w l 0 (omega arith) ∙ ap (λ (n : ℕ). w ++ drop n l) z

front_of : (w l₀ l : List ℕ) (count : ℕ) → length w ≤ length l₀ → length l₀ ≤ 256 → (count ≡ length w) × (l ≡ sets l₀ 0 w) → Front w count l
front_of w l₀ l count h k e =
    let s : l ≡ w ++ drop (length w) l₀ = e.1 ∙ sets_front w l₀ h in
    let t : take count l ≡ w = ap (take count) s ∙ take_at w (drop (length w) l₀) count (sym e.0) in
    record { fits = omega (arith, ap length e.1 ∙ length-sets l₀ 0 w); is = t; long = e.0 ∙ sym (ap length t); few = omega (arith, ap length t) }

-- the entries of so few parts take few bytes
pub size_low : (xs : List ℕ) (u : ℕ) → length xs ≤ 256 → u ≡ size_of xs → u ≤ 131584
size_low xs u h e = omega (arith, size_few xs)

-- ---- entries of parts, and of the paths that they spell

cat_map : {A : Type 0} (f : A → List ℕ) (e : List ℕ → List ℕ) (g : A → List ℕ) → ((x : A) → f x ≡ e (g x)) → (l : List A) → cat f l ≡ cat e (map g l)
unfolding cat
cat_map f e g h [] = refl
cat_map f e g h (x ∷ l) = ap₂ (λ (a b : List ℕ). a ++ b) (h x) (cat_map f e g h l)

entries_spell : (kind : ℕ) (b xs : List ℕ) (ps : List (List ℕ)) → map (spelled b) xs ≡ ps → entries kind b (sort (span_before b) xs) ≡ cat (entry kind) (in_order ps)
unfolding entries
entries_spell kind b xs ps h =
    cat_map (λ (x : ℕ). entry kind (spelled b x)) (entry kind) (spelled b) (λ x. refl) (sort (span_before b) xs)
    ∙ ap (cat (entry kind)) (spelled_sort b xs ∙ ap in_order h)

-- what a listing is, for any state: files in order, then directories
listing_is : (dir : List ℕ) (s : State) → listing_of dir s ≡ cat (entry 0) (in_order (files_in dir s)) ++ cat (entry 1) (in_order (dirs_in dir s))
unfolding listing_of
listing_is dir s = refl

module _ (b : Bufs) (P : IsPool b) (path : List ℕ) where
  abbrev rs : List Row
  rs = rows_of b.nums b.names b.pool.held

  abbrev ds : List (List ℕ)
  ds = dirs_of b.dirs b.pool.dirs

  F : Flat b.pool.chosen.rows b.pool.held b.nums b.names
  F = pool_rows b P

  G : FlatDirs b.pool.chosen.dir_rows b.pool.dirs b.dirs
  G = pool_dirs b P

  -- ---- what is lent

  few : b.pool.held ≤ 64
  unfolding view
  few = omega (arith, F.few, P.valid.counts.small)

  dirs_few : b.pool.dirs ≤ 256
  unfolding view
  dirs_few = omega (arith, G.few, P.valid.counts.dirs_small)

  pub dirs_lent : b.pool.dirs * dir_width ≤ length b.dirs
  dirs_lent = omega (arith, dirs_long b.pool.chosen.dir_rows b.pool.dirs b.dirs G, G.few)

  pub files_ready : Flat b.pool.chosen.rows b.pool.held b.nums b.names × (b.pool.held ≤ 256) × (b.pool.held ≤ 64)
  files_ready = (F, omega (arith, few), few)

  pub dirs_ready : (b.pool.dirs * dir_width ≤ length b.dirs) × (b.pool.dirs ≤ 256) × (b.pool.dirs ≤ 256)
  dirs_ready = (dirs_lent, dirs_few, dirs_few)

  -- ---- what was picked

  files_few : length (child_files path rs) ≤ 64
  files_few = rw (child_files_lem path b.nums b.names b.pool.held) (omega (arith, few, picks_few (file_span rs) (λ (i : ℕ). is_child path (at rs i)) 0 b.pool.held))

  folders_few : length (child_dirs path ds) ≤ 256
  folders_few = rw (child_dirs_lem path b.dirs b.pool.dirs) (omega (arith, dirs_few, picks_few (dir_span ds) (λ (j : ℕ). is_parent path (get_or ds j [])) 0 b.pool.dirs))

  pub files_front : (f : ℕ) (l : List ℕ) → (f ≡ length (child_files path rs)) × (l ≡ sets (replicate 64 0) 0 (child_files path rs)) → Front (child_files path rs) f l
  files_front f l e = front_of (child_files path rs) (replicate 64 0) l f files_few (omega arith) e

  pub folders_front : (d : ℕ) (l : List ℕ) → (d ≡ length (child_dirs path ds)) × (l ≡ sets (replicate 256 0) 0 (child_dirs path ds)) → Front (child_dirs path ds) d l
  folders_front d l e = front_of (child_dirs path ds) (replicate 256 0) l d folders_few (omega arith) e

  files_inside : AllInside b.names (child_files path rs)
  files_inside =
      rw (child_files_lem path b.nums b.names b.pool.held)
      (picks_inside b.names (file_span rs) (λ (i : ℕ). is_child path (at rs i)) b.pool.held
      (file_inside b.pool.chosen.rows b.pool.held b.nums b.names F))

  folders_inside : AllInside b.dirs (child_dirs path ds)
  folders_inside =
      rw (child_dirs_lem path b.dirs b.pool.dirs)
      (picks_inside b.dirs (dir_span ds) (λ (j : ℕ). is_parent path (get_or ds j [])) b.pool.dirs (dir_inside b.pool.dirs b.dirs dirs_lent))

  files_spell : map (spelled b.names) (child_files path rs) ≡ files_in path (view b)
  unfolding child_files files_in view
  files_spell =
      spell_each b.names (file_span rs) (λ (i : ℕ). path_of (at rs i)) (file_spelled b.pool.chosen.rows b.pool.held b.nums b.names F)
      (keep (λ (i : ℕ). is_child path (at rs i)) (range 0 (length rs)))
      ∙ picked_rows (is_child path) path_of none rs

  folders_spell : map (spelled b.dirs) (child_dirs path ds) ≡ dirs_in path (view b)
  unfolding child_dirs dirs_in view
  folders_spell =
      spell_each b.dirs (dir_span ds) (λ (j : ℕ). get_or ds j []) (dir_spelled b.pool.dirs b.dirs dirs_lent)
      (keep (λ (j : ℕ). is_parent path (get_or ds j [])) (range 0 (length ds)))
      ∙ picked_rows (is_parent path) (λ (p : List ℕ). p) [] ds
      ∙ map_same (keep (is_parent path) ds)
    where
      map_same : (l : List (List ℕ)) → map (λ (p : List ℕ). p) l ≡ l
      map_same [] = refl
      map_same (x ∷ l) = ap {B = List (List ℕ)} (λ t. x ∷ t) (map_same l)

  listed : entries 0 b.names (sort (span_before b.names) (child_files path rs)) ++ entries 1 b.dirs (sort (span_before b.dirs) (child_dirs path ds)) ≡ listing_of path (view b)
  listed =
      ap₂ (λ (x y : List ℕ). x ++ y) (entries_spell 0 b.names (child_files path rs) _ files_spell) (entries_spell 1 b.dirs (child_dirs path ds) _ folders_spell)
      ∙ sym (listing_is path (view b))

  listed_long : length (listing_of path (view b)) ≡ size_of (child_files path rs) + size_of (child_dirs path ds)
  listed_long =
      ap length (sym listed)
      ∙ length-append (entries 0 b.names (sort (span_before b.names) (child_files path rs))) (entries 1 b.dirs (sort (span_before b.dirs) (child_dirs path ds)))
      ∙ ap₂ (λ (x y : ℕ). x + y) (entries_sorted 0 b.names (child_files path rs) ∙ entries_long 0 b.names (child_files path rs) files_inside)
      (entries_sorted 1 b.dirs (child_dirs path ds) ∙ entries_long 1 b.dirs (child_dirs path ds) folders_inside)

  -- ---- the ways out

  pub not_held : (buf : List ℕ) → has_path ds path ≡ false → listing 5 0 buf ≡ read_dir_m path buf (view b)
  unfolding read_dir_m view
  not_held buf e = rw e

  module _ (buf : List ℕ) (e : has_path ds path ≡ true) where
    held : read_dir_m path buf (view b) ≡ fitted (listing_of path (view b)) buf
    unfolding read_dir_m view
    held = rw e

    module _ (f d : ℕ) (fl dl : List ℕ) (x : Front (child_files path rs) f fl) (y : Front (child_dirs path ds) d dl)
        (u v : ℕ) (su : u ≡ size_of (take f fl)) (sv : v ≡ size_of (take d dl)) where
      sizes : u + v ≡ length (listing_of path (view b))
      sizes = ap₂ (λ (p q : ℕ). p + q) (su ∙ ap size_of x.is) (sv ∙ ap size_of y.is) ∙ sym listed_long

      pub too_small : length buf < u + v → listing 13 0 buf ≡ read_dir_m path buf (view b)
      unfolding fitted
      too_small h = sym (held ∙ rw (lt-leb _ _ (rw sizes at h)))

      pub fill_ready : u + v ≤ length buf
          → AllInside b.names (take f fl) × AllInside b.dirs (take d dl) × (length (entries 0 b.names (take f fl)) + length (entries 1 b.dirs (take d dl)) ≤ length buf)
      fill_ready h =
          let i : AllInside b.names (take f fl) = rw x.is files_inside in
          let j : AllInside b.dirs (take d dl) = rw y.is folders_inside in
          (i, j, omega (arith, entries_long 0 b.names (take f fl) i, entries_long 1 b.dirs (take d dl) j))

      pub done : (r : ℕ) (l : List ℕ) → u + v ≤ length buf
          → r ≡ length (entries 0 b.names (take f fl)) + length (entries 1 b.dirs (take d dl))
          → l ≡ sets buf 0 (entries 0 b.names (sort (span_before b.names) (take f fl)) ++ entries 1 b.dirs (sort (span_before b.dirs) (take d dl)))
          → listing 0 r l ≡ read_dir_m path buf (view b)
      unfolding fitted
      done r l h p q =
          let t : List ℕ = listing_of path (view b) in
          let g = fill_ready h in
          let k : length t ≤ length buf = rw sizes at h in
          let n : r ≡ length t = omega (arith, p, entries_long 0 b.names (take f fl) g.0, entries_long 1 b.dirs (take d dl) g.1, sizes) in
          let w : l ≡ sets buf 0 t = q ∙ rw (x.is, y.is, listed) in
          let z : l ≡ t ++ drop (length t) buf = w ∙ sets_front t buf k in
          sym (held ∙ rw (le-leb _ _ k) (ap₂ (listing 0) (sym n) (sym z)))

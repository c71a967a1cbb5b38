-- Calls that antt computes, on one slot of four bytes (the model asks nothing of the size) and on file offsets.
use Rattle.std.specs.Prelude.{ℕ, ◌≡◌, refl, [], ◌∷◌}
use Rattle.le.specs.Le.{laid}
use Rattle.device.specs.declared.Place.{Place}
use Rattle.device.specs.declared.Geometry.{Geometry}
use Rattle.device.specs.Device.{dev, turn, onward, share, short, stores, stops, given, grown, stored_bytes, stored_phys, write_m, truncate_m}

abbrev four : Geometry
four = record { size = 4 }

abbrev at : ℕ → ℕ → Place
at n o = record { at = n; last = o }

-- a write past the length zeroes the gap, and the length reaches its end
gap : write_m [] four 0 2 (5 ∷ []) (dev (9 ∷ 9 ∷ 9 ∷ 9 ∷ []) (1 ∷ []) (at 0 0)) ≡ dev (9 ∷ 0 ∷ 5 ∷ 9 ∷ []) (3 ∷ []) (at 0 0)
unfolding write_m turn onward share short stores stored_bytes stored_phys grown laid
gap = refl

-- a write of no bytes reaches its start
empty : write_m [] four 0 2 [] (dev (9 ∷ 9 ∷ 9 ∷ 9 ∷ []) (1 ∷ []) (at 0 0)) ≡ dev (9 ∷ 0 ∷ 9 ∷ 9 ∷ []) (2 ∷ []) (at 0 0)
unfolding write_m turn onward share short stores stored_bytes stored_phys grown laid
empty = refl

-- byte 2 on a write that does not fit stores half of what fits: one byte of four, with room for two or three
half : write_m (2 ∷ []) four 0 1 (5 ∷ 6 ∷ 7 ∷ 8 ∷ []) (dev (9 ∷ 9 ∷ 9 ∷ 9 ∷ []) (1 ∷ []) (at 0 0)) ≡ dev (9 ∷ 5 ∷ 9 ∷ 9 ∷ []) (2 ∷ []) (at 1 11)
unfolding write_m turn onward share short stores stored_bytes stored_phys grown laid
half = refl

-- byte 2 on a write of no bytes is a success
half_of_none : write_m (2 ∷ []) four 0 1 [] (dev (9 ∷ 9 ∷ 9 ∷ 9 ∷ []) (1 ∷ []) (at 0 0)) ≡ dev (9 ∷ 9 ∷ 9 ∷ 9 ∷ []) (1 ∷ []) (at 1 0)
unfolding write_m turn onward share short stores stored_bytes stored_phys grown laid
half_of_none = refl

-- a write that starts at the slot's end stores nothing, and reaches it; one that starts beyond fails
edge : write_m [] four 0 4 (5 ∷ []) (dev (9 ∷ 9 ∷ 9 ∷ 9 ∷ []) (3 ∷ []) (at 0 0)) ≡ dev (9 ∷ 9 ∷ 9 ∷ 0 ∷ []) (4 ∷ []) (at 0 11)
unfolding write_m turn onward share short stores stored_bytes stored_phys grown laid
edge = refl

beyond : write_m [] four 0 5 [] (dev (9 ∷ 9 ∷ 9 ∷ 9 ∷ []) (3 ∷ []) (at 7 0)) ≡ dev (9 ∷ 9 ∷ 9 ∷ 9 ∷ []) (3 ∷ []) (at 7 10)
unfolding write_m turn onward
beyond = refl

-- a cut changes the length alone; growth adds zeros; byte 2 fails it
cuts : truncate_m [] four 0 1 (dev (9 ∷ 9 ∷ 9 ∷ 9 ∷ []) (3 ∷ []) (at 0 0)) ≡ dev (9 ∷ 9 ∷ 9 ∷ 9 ∷ []) (1 ∷ []) (at 0 0)
unfolding truncate_m turn onward stops grown laid
cuts = refl

grows : truncate_m (0 ∷ []) four 0 3 (dev (9 ∷ 9 ∷ 9 ∷ 9 ∷ []) (1 ∷ []) (at 0 0)) ≡ dev (9 ∷ 0 ∷ 0 ∷ 9 ∷ []) (3 ∷ []) (at 1 0)
unfolding truncate_m turn onward stops grown laid
grows = refl

not_cut : truncate_m (2 ∷ []) four 0 1 (dev (9 ∷ 9 ∷ 9 ∷ 9 ∷ []) (3 ∷ []) (at 0 0)) ≡ dev (9 ∷ 9 ∷ 9 ∷ 9 ∷ []) (3 ∷ []) (at 1 10)
unfolding truncate_m turn onward stops
not_cut = refl

-- a read gives what lies below the length, and under byte 2 the first half
reads : given [] four 0 1 4 (dev (6 ∷ 7 ∷ 8 ∷ 9 ∷ []) (3 ∷ []) (at 0 0)) ≡ 7 ∷ 8 ∷ []
unfolding given turn share
reads = refl

reads_half : given (2 ∷ []) four 0 0 4 (dev (6 ∷ 7 ∷ 8 ∷ 9 ∷ []) (3 ∷ []) (at 0 0)) ≡ 6 ∷ []
unfolding given turn share
reads_half = refl

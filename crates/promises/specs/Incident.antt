-- The section with the basement that nobody built, end to end: a filter wrote a cleaned tile and renamed it over the raw one, the power
-- went before the raw tile's slot was let go, and two slots claim one name. What a mount makes of it, and what is read then.
use Rattle.std.specs.Prelude.{ℕ, ◌+◌, ◌-◌, ◌<◌, min, ◌≡◌, ◌≢◌, true, false, List, ◌++◌, length, take, drop}
use Rattle.text.specs.Text.{is_text}
use Rattle.path.specs.Path.{same_path}
use Rattle.device.specs.Device.{phys_of}
use Rattle.device.specs.Slots.{part_of}
use Rattle.mount_survey.specs.Heads.{claim}
use Rattle.calls_gate.specs.declared.Call.{Call}
use Rattle.calls_gate.specs.declared.Call.TheVariants.{OpenRead, ReadAt, FileLen}
use Rattle.calls_gate.specs.Replies.{telling}
use Rattle.pool.specs.Face.{Asked, Left, Entered}
use Rattle.promises.specs.Face.{number, device_of}
use Rattle.promises.specs.Stays.{Follows}
use Rattle.promises.specs.Edges.{Spared, Mounting, head, Accepted}

-- Slots i and j of a mount claim equal paths, the raw tile in i and the cleaned one in j under a higher generation; no third slot does.
pub record TwoTiles (m : Mounting) : Type 0 where
  pub i : ℕ
  pub raw : List ℕ
  pub old : ℕ
  pub raw_len : ℕ
  pub j : ℕ
  pub cleaned : List ℕ
  pub new : ℕ
  pub len : ℕ
  pub i_mounted : i < m.k
  pub j_mounted : j < m.k
  pub i_claims : head m i ≡ claim raw old raw_len
  pub j_claims : head m j ≡ claim cleaned new len
  pub one_name : same_path raw cleaned ≡ true
  pub newer : old < new
  pub no_third : (x : ℕ) (p : List ℕ) (e l : ℕ) → x < m.k → x ≢ i → x ≢ j → head m x ≡ claim p e l → same_path cleaned p ≡ false

module _ (m : Mounting) (t : TwoTiles m) where
  -- A call that is lent what the mount left.
  pub record Later (call : Call) : Type 0 where
    pub ask : Asked
    pub left : Left
    pub follows : Follows m.ask m.left ask
    pub made : Entered ask left
    pub is : ask.call ≡ call

  -- The bytes that lay in slot j before the mount, from file offset pos on, as many as were asked for and the file has.
  abbrev pub lay : ℕ → ℕ → List ℕ
  lay pos n =
      take (min n (t.len - pos))
      (drop (512 + pos) (take (phys_of t.j (device_of m.ask)) (part_of m.ask.geometry.size t.j m.ask.bytes)))

  -- Then open_read of either spelling gives slot j under its generation, and so does any other spelling that is text;
  pub record TheCleanedTile : Type 0 where
    pub opens : (c : Later OpenRead) → is_text c.ask.first ≡ true → same_path c.ask.first t.cleaned ≡ true
        → (number c.left ≡ 0) × (c.left.reply.told ≡ telling t.j t.new 0 0 false)
    pub raw_text : is_text t.raw ≡ true
    pub cleaned_text : is_text t.cleaned ≡ true
    -- file_len gives j's length;
    pub length_is : (c : Later (FileLen t.j t.new))
        → (number c.left ≡ 0) × (c.left.reply.told ≡ telling 0 0 t.len 0 false)
    -- and a read that the plan leaves alone gives exactly the bytes that lay in slot j before the mount.
    pub reads : (pos : ℕ) (c : Later (ReadAt t.j t.new pos)) → Spared c.ask.plan c.ask.at
        → let bs = lay pos (length c.ask.buf) in
        (number c.left ≡ 0) × (c.left.reply.told ≡ telling 0 0 0 (length bs) false)
        × (c.left.buf ≡ bs ++ drop (length bs) c.ask.buf)

-- "The cleaned tile wins", where the mount is accepted and its header reads are untouched, whatever fails while the raw tile is released.
unfoldable pub TheCleanedTileWins : Type 0
TheCleanedTileWins = (m : Mounting) → Accepted m → (t : TwoTiles m) → TheCleanedTile m t

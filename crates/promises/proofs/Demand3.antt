-- The statements of specs/Demand3.antt: what crate promises_mount proves of the inner mount and adoption is true of what the face leaves,
-- since that is the flat form of theirs (Face.antt). The device's shape and the numbers of rows follow from the mount that is accepted.
use Prim.Native.Nat.{ℕ, ◌+◌, ◌≤◌}
use mathlib.Core.Path.{◌≡◌, refl, sym, ap, subst, ◌∙◌}
use mathlib.Core.Logic.{◌⊎◌, inl, inr, ⊎_elim}
use mathlib.Core.List.{List}
use Rattle.device.specs.declared.Geometry.{Geometry}
use Rattle.device.specs.Device.{Dev, dev, Shape}
use Rattle.pool_state.specs.declared.Chosen.{Chosen}
use Rattle.pool_state.specs.State.{State, view}
use Rattle.pool_steps.specs.World.{World, world, Lent, view_w, Fit, Ready}
use Rattle.pool_steps.specs.Outcome.{Outcome, None, flat_o}
use Rattle.mount.specs.Mount.{mounted, mount_m, empty_state}
use Rattle.mount.proofs.Stays.{adopt_valid, mount_valid}
use Rattle.calls_gate.specs.declared.Call.TheVariants.{Mount}
use Rattle.calls_gate.specs.Table.{slot_rows, dir_rows, chosen_of}
use Rattle.calls_gate.specs.Replies.{Came}
use Rattle.calls_gate.specs.Calls.{call_p}
use Rattle.pool.specs.Face.{Asked, Left, lent_of, Entered}
use Rattle.promises_mount.specs.Words.{header_at, Untouched, Rule, Registered, SameFiles, SameDirs, SameFree, NoneFails}
use Rattle.promises_mount.specs.Mounts.{Trial, headers, empty_one, empty_two, whole, first_part, both, QuietWhole, QuietBoth, Given, Below62}
use Rattle.promises_mount.specs.Mounts.{SplitIsOneMount, FreeSlotsSame, Again, later_dev, next_part, next_both}
use Rattle.promises_mount.specs.Mounts.{MountAgainSame, AgainInParts}
use Rattle.promises_mount.proofs.Mount.{mount_rule as inner-rule, mount_room}
use Rattle.promises_mount.proofs.Surveys.{mount_dirs}
use Rattle.promises_mount.proofs.Faultless.{faultless_untouched, faultless_none_fails}
use Rattle.promises_mount.proofs.Theorem.{the_rule, split_is_one_mount, free_slots_same, mount_again_same, again_in_parts, whole_shape}
use Rattle.promises_mount.proofs.Theorem.{both_shape}
use Rattle.promises.specs.Face.{number, dev_of, left_of, held, came_of, device_of, Lending}
use Rattle.promises.specs.Demand3.{Mounted, MountRule, FaultlessIsQuiet, Ways, ask_one}
use Rattle.promises.specs.Demand3.{Premises, QuietOne, QuietTwo, SplitIsOne, Remounted, ask_again, AgainTheSame, Demand3}
use Rattle.calls_gate.proofs.Inward.{mount_fits, mount_accepted, mount_held, mount_ready}
use Rattle.promises.proofs.Mounting.{mounted_done, mounted_dev}
use Rattle.promises.proofs.Face.{as_call, flatly, choice, few_rows, mount_is, adopt_is}
use Rattle.promises.proofs.Face.{end_done, end_world, end_ready, end_state}

-- ---- the rule for one mount

module _ (x : Asked) (k : ℕ) (y : Left) (e : Entered x y) (c : x.call ≡ Mount k) (z : number y ≡ 0) where
  abbrev call : Came
  call = call_p x.plan x.geometry (Mount k) x.first x.second x.buf (lent_of x)

  -- the flat mount
  pub is_mount : came_of y ≡ call
  is_mount = as_call x y (Mount k) e c

  zero_call : call.number ≡ 0
  zero_call = sym (ap (λ (a : Came). a.number) is_mount) ∙ z

  pub is_fit : Shape x.geometry x.bytes x.phys × (slot_rows (lent_of x).bufs.nums ≤ 64) × (dir_rows (lent_of x).bufs.dirs ≤ 256)
  is_fit = mount_fits x.plan x.geometry k x.first x.second x.buf (lent_of x) zero_call

  abbrev chosen : Chosen
  chosen = chosen_of (lent_of x).bufs

  pub state_is : held y ≡ (mount_m x.plan x.geometry chosen k (device_of x)).left.state
  state_is =
      ap (λ (a : Came). view a.left.bufs) is_mount
      ∙ mount_held x.plan x.geometry k x.first x.second x.buf (lent_of x) zero_call

  mounted_so : Untouched x.plan 0 k (device_of x) → Mounted x k y
  mounted_so u =
      let g = x.geometry in
      let H = header_at g (device_of x) in
      let s = is_fit.0 in
      let a = mount_accepted x.plan g k x.first x.second x.buf (lent_of x) zero_call in
      let room = mount_room g x.plan chosen k (device_of x) s u a in
      record {
        rule =
            subst (λ (b : State). Rule H k b.rows) (sym state_is) (inner-rule g x.plan chosen k (device_of x) s u a);
        dirs =
            subst (λ (b : State). Registered H k b.dirs) (sym state_is) (mount_dirs g x.plan chosen k (device_of x) s u room a);
        ready =
            subst (λ (b : Came). Ready g b.left) (sym is_mount)
            (mount_ready x.plan g k x.first x.second x.buf (lent_of x) zero_call);
      }

pub mount_rule : MountRule
unfolding MountRule
mount_rule x k y e c u z = mounted_so x k y e c z u

pub faultless_is_quiet : FaultlessIsQuiet
unfolding FaultlessIsQuiet view_w
faultless_is_quiet x i k big f = (
  faultless_untouched x.plan i k (device_of x) f,
  faultless_none_fails x.plan x.geometry big k (world (device_of x) (empty_state (chosen_of (lent_of x).bufs))) f,
  faultless_none_fails x.plan x.geometry big k (view_w (lent_of x)) f,
)

-- ---- none fails

module _ (plan : List ℕ) (g : Geometry) (k : ℕ) where
  quiet_rows : (d : Dev) {a b : Chosen} → a ≡ b → NoneFails plan g k (world d (empty_state a)) → NoneFails plan g k (world d (empty_state b))
  quiet_rows d e q = subst (λ (h : Chosen). NoneFails plan g k (world d (empty_state h))) e q

  quiet_world : {v w : World} → v ≡ w → NoneFails plan g k v → NoneFails plan g k w
  quiet_world e q = subst (NoneFails plan g k) e q

-- ---- mounting again

module _ (t : Trial) (few : t.chosen.rows ≤ 64) (low : t.chosen.dir_rows ≤ 256) (c : Outcome None World) (y : Left)
    (same : view_w (left_of y) ≡ c.left) (s : Shape t.geometry c.left.dev.bytes c.left.dev.phys) (Quiet Inner : Type 0)
    (inner : Quiet → Inner) where
  abbrev g : Geometry
  g = t.geometry

  held_is : held y ≡ c.left.state
  unfolding view_w
  held_is = ap (λ (w : World). w.state) same

  dev_is : dev_of y ≡ c.left.dev
  unfolding view_w
  dev_is = ap (λ (w : World). w.dev) same

  -- the device under the third plan
  later_is : dev y.bytes y.phys t.place_three ≡ later_dev t c
  later_is = ap (λ (d : Dev). dev d.bytes d.phys t.place_three) dev_is

  shape : Shape g y.bytes y.phys
  shape = subst (λ (d : Dev). Shape g d.bytes d.phys) (sym dev_is) s

  -- a mount of k slots of it
  next_is : (r : Lending t.chosen) (k : ℕ) (next : Left) → Entered (ask_again t r k y) next
      → flatly next ≡ mounted (mount_m t.plan_three g t.chosen k (later_dev t c))
  next_is r k next e =
      mount_is g t.plan_three k t.chosen few low r (dev y.bytes y.phys t.place_three) shape next e
      ∙ ap (λ (d : Dev). mounted (mount_m t.plan_three g t.chosen k d)) later_is

  next_fit : (k : ℕ) → Fit g (mount_m t.plan_three g t.chosen k (later_dev t c)).left
  next_fit k = mount_valid t.plan_three g t.chosen k (later_dev t c) s few low

  remounted : {A B : Type 0} → (B → A) → (o : Outcome None World) → Fit g o.left → Again A c.left.state o → (next : Left)
      → flatly next ≡ flat_o o → Remounted t B y next
  remounted f o F G next e =
      let v = end_state g o F G.accepted next e in
      record {
        done = end_done g o F G.accepted next e;
        files = subst (λ (b : State). SameFiles b (held next)) (sym held_is) (subst (SameFiles c.left.state) (sym v) G.files);
        dirs = subst (λ (b : State). SameDirs b (held next)) (sym held_is) (subst (SameDirs c.left.state) (sym v) G.dirs);
        free = λ q. subst (λ (b : State). SameFree b (held next)) (sym held_is) (subst (SameFree c.left.state) (sym v) (G.free (f q)));
      }

  low_or_quiet : Below62 t ⊎ Quiet → Below62 t ⊎ Inner
  low_or_quiet b = ⊎_elim inl (λ q. inr (inner q)) b

  again_the_same : MountAgainSame t c Inner → AgainInParts t c Inner → AgainTheSame t Quiet y
  unfolding AgainTheSame MountAgainSame AgainInParts
  again_the_same A B b r = (
    λ next e u.
        let k = t.n + t.m in
        let X = A (low_or_quiet b) (subst (Untouched t.plan_three 0 k) later_is u) in
        let o = mount_m t.plan_three g t.chosen k (later_dev t c) in
        remounted inner o (next_fit k) X next (next_is r k next e ∙ mounted_done o X.accepted),
    λ i j part next n e f u v.
        let o = next_part t c i in
        let m = next_is r i part e in
        let p : dev_of part ≡ o.left.dev = ap (λ (x : Outcome None Lent). x.left.dev) m ∙ mounted_dev o in
        let X =
        B i j n (low_or_quiet b) (subst (Untouched t.plan_three 0 i) later_is u) (subst (Untouched t.plan_three i j) p v) in
        let a = m ∙ mounted_done o X.0 in
        let w = end_world g o (next_fit i) X.0 part a in
        let R = end_ready g o (next_fit i) X.0 part a in
        let z = adopt_is g t.plan_three j r.first r.second r.buf part next o.left w R f in (
          end_done g o (next_fit i) X.0 part a,
          remounted inner (next_both t c i j) (adopt_valid t.plan_three g o.left (next_fit i) j) X.1 next z,
        ),
  )

-- ---- the two ways

module _ (t : Trial) (w : Ways t) (P : Premises t w) where
  -- what the accepted mount says of the device and the rows
  shapes : Shape t.geometry t.bytes t.phys × (t.chosen.rows ≤ 64) × (t.chosen.dir_rows ≤ 256)
  shapes =
      let f = is_fit (ask_one t w) (t.n + t.m) w.one P.made_one refl P.accepted in
      let n = few_rows t.chosen w.lend_one f.1 f.2 in
      (f.0, n.0, n.1)

  abbrev few : t.chosen.rows ≤ 64
  few = shapes.1

  abbrev low : t.chosen.dir_rows ≤ 256
  low = shapes.2

  one_is : flatly w.one ≡ mounted (whole t)
  one_is =
      mount_is t.geometry t.plan_one (t.n + t.m) t.chosen few low w.lend_one (empty_one t).dev shapes.0 w.one
      P.made_one

  two_is : flatly w.two ≡ mounted (first_part t)
  two_is = mount_is t.geometry t.plan_two t.n t.chosen few low w.lend_two (empty_two t).dev shapes.0 w.two P.made_two

  two_dev : dev_of w.two ≡ (first_part t).left.dev
  two_dev = ap (λ (x : Outcome None Lent). x.left.dev) two_is ∙ mounted_dev (first_part t)

  G : Given t
  unfolding mounted
  G = record {
    shape = shapes.0;
    few = few;
    reads_whole = P.reads_one;
    reads_part = P.reads_two;
    reads_both = subst (Untouched t.plan_two t.n t.m) two_dev P.reads_three;
    accepted = sym (ap (λ (x : Outcome None Lent). x.out) one_is) ∙ P.accepted;
  }

  S : SplitIsOneMount t
  S = split_is_one_mount t G

  whole_fit : Fit t.geometry (whole t).left
  whole_fit = mount_valid t.plan_one t.geometry t.chosen (t.n + t.m) (empty_one t).dev shapes.0 few low

  part_fit : Fit t.geometry (first_part t).left
  part_fit = mount_valid t.plan_two t.geometry t.chosen t.n (empty_two t).dev shapes.0 few low

  both_fit : Fit t.geometry (both t).left
  both_fit = adopt_valid t.plan_two t.geometry (first_part t).left part_fit t.m

  -- each end is what the inner call came to
  one_end : flatly w.one ≡ flat_o (whole t)
  one_end = one_is ∙ mounted_done (whole t) G.accepted

  two_end : flatly w.two ≡ flat_o (first_part t)
  two_end = two_is ∙ mounted_done (first_part t) S.part_accepted

  two_world : view_w (left_of w.two) ≡ (first_part t).left
  two_world = end_world t.geometry (first_part t) part_fit S.part_accepted w.two two_end

  three_end : flatly w.three ≡ flat_o (both t)
  three_end =
      adopt_is t.geometry t.plan_two t.m w.lend_two.first w.lend_two.second w.lend_two.buf w.two w.three
      (first_part t).left two_world (end_ready t.geometry (first_part t) part_fit S.part_accepted w.two two_end) P.made_three

  pub quiet_one : QuietOne t w → QuietWhole t
  quiet_one = quiet_rows t.plan_one t.geometry (t.n + t.m) (empty_one t).dev (choice t.chosen w.lend_one)

  pub quiet_two : QuietTwo t w → QuietBoth t
  quiet_two q = (
    quiet_rows t.plan_two t.geometry t.n (empty_two t).dev (choice t.chosen w.lend_two) q.0,
    quiet_world t.plan_two t.geometry t.m two_world q.1,
  )

  split_is_one : SplitIsOne t w
  unfolding FreeSlotsSame
  split_is_one =
      let g = t.geometry in
      let k = t.n + t.m in
      let R = the_rule t G in
      let u = end_state g (whole t) whole_fit G.accepted w.one one_end in
      let v = end_state g (both t) both_fit S.both_accepted w.three three_end in
      let same : (Q : State → State → Type 0) → Q (both t).left.state (whole t).left.state → Q (held w.three) (held w.one) =
      λ Q h. subst (λ (b : State). Q b (held w.one)) (sym v) (subst (Q (both t).left.state) (sym u) h) in
      record {
        two_accepted = end_done g (first_part t) part_fit S.part_accepted w.two two_end;
        three_accepted = end_done g (both t) both_fit S.both_accepted w.three three_end;
        one_ready = end_ready g (whole t) whole_fit G.accepted w.one one_end;
        three_ready = end_ready g (both t) both_fit S.both_accepted w.three three_end;
        one_rule = subst (λ (b : State). Rule (headers t) k b.rows) (sym u) R.rule_whole;
        three_rule = subst (λ (b : State). Rule (headers t) k b.rows) (sym v) R.rule_both;
        one_dirs = subst (λ (b : State). Registered (headers t) k b.dirs) (sym u) R.dirs_whole;
        three_dirs = subst (λ (b : State). Registered (headers t) k b.dirs) (sym v) R.dirs_both;
        files = same SameFiles S.files;
        dirs = ap (λ (b : State). b.dirs) v ∙ S.dirs ∙ sym (ap (λ (b : State). b.dirs) u);
        free = λ q r. same SameFree (free_slots_same t G (quiet_one q) (quiet_two r));
      }

  one_again : AgainTheSame t (QuietOne t w) w.one
  one_again =
      let v = end_world t.geometry (whole t) whole_fit G.accepted w.one one_end in
      again_the_same t few low (whole t) w.one v (whole_shape t G) (QuietOne t w) (QuietWhole t) quiet_one
      (mount_again_same t G).0 (again_in_parts t G).0

  three_again : AgainTheSame t (QuietTwo t w) w.three
  three_again =
      let v = end_world t.geometry (both t) both_fit S.both_accepted w.three three_end in
      again_the_same t few low (both t) w.three v (both_shape t G) (QuietTwo t w) (QuietBoth t) quiet_two
      (mount_again_same t G).1 (again_in_parts t G).1

pub demand_3 : Demand3
unfolding Demand3
demand_3 t w P = (split_is_one t w P, one_again t w P, three_again t w P)

-- The statements of specs/Words.antt are the model's, in the words of real rows and headers: each follows from the model's of the same
-- name.
use Prim.Native.Nat.{ℕ, ◌+◌, ◌≤◌}
use mathlib.Core.Path.{◌≡◌, refl, sym, ap, subst, ◌∙◌}
use mathlib.Core.Logic.{◌↔◌}
use mathlib.Core.Bool.{true, false≢true}
use mathlib.Core.List.{List, [], ◌∷◌, map}
use lib.ListN.{length, length-map}
use Rattle.device.specs.declared.Geometry.{Geometry}
use Rattle.device.specs.Device.{Shape}
use Rattle.slot_rows.specs.Rows.{Row, unbound, bound, at, is_bound, path_of, gen_of, len_of, find}
use Rattle.dir_rows.specs.Dirs.{Dirs}
use Rattle.pool_steps.specs.World.{World}
use Rattle.pool_steps.specs.Steps.{release_m}
use Rattle.mount_survey.specs.Heads.{Head, absent, idle, claim}
use Rattle.mount_survey.specs.Staged.{wants}
use Rattle.promises_model.specs.Model.{Claim, Kit}
use Rattle.promises_model.specs.Model as M
use Rattle.promises_model.proofs.Loops.{unbound≢bound, absent≢claim, idle≢claim}
use Rattle.promises_model.specs.Best as B
use Rattle.promises_model.specs.Promise as P
use Rattle.promises_mount.specs.Words.{Untouched, Best, Holds, Rule, Registered, SameFiles, SameDirs, SameFree, AllFine, NoneFails}
use Rattle.promises_mount.specs.Words.{surveyed, standing}
use Rattle.promises_mount.proofs.Kit.{claim_of, said, real_kit}
use Rattle.promises_mount.proofs.Bridge.{plain, rows_at, find_is, shown_w, release_shown}
use Rattle.promises_mount.proofs.Adopt.{survey_is, standing_is}

-- ---- rows and headers

claim_same : {p q : List ℕ} {e f l m : ℕ} → p ≡ q → e ≡ f → l ≡ m → claim_of p e l ≡ claim_of q f m
claim_same {q = q} {e = e} {f = f} {l = l} x y z =
    ap (λ (p : List ℕ). claim_of p e l) x ∙ ap (λ (i : ℕ). claim_of q i l) y ∙ ap (claim_of q f) z

row_claim : {A : Type 0} {c d : Claim A} → M.bound c ≡ M.bound d → c ≡ d
row_claim h = cc

head_claim : {A : Type 0} {c d : Claim A} → M.claim c ≡ M.claim d → c ≡ d
head_claim h = cc

row_to : (r : Row) (p : List ℕ) (e l : ℕ) → is_bound r ≡ true → path_of r ≡ p → gen_of r ≡ e → len_of r ≡ l → plain r ≡ M.bound (claim_of p e l)
unfolding is_bound path_of gen_of len_of
row_to (unbound f) p e l b x y z = absurd (false≢true b)
row_to (bound q f) p e l b x y z = ap M.bound (claim_same x y z)

row_from_lem : (r : Row) (p : List ℕ) (e l : ℕ) → plain r ≡ M.bound (claim_of p e l)
    → (is_bound r ≡ true) × (path_of r ≡ p) × (gen_of r ≡ e) × (len_of r ≡ l)
unfolding is_bound path_of gen_of len_of
row_from_lem (unbound f) p e l h = absurd (unbound≢bound h)
row_from_lem (bound q f) p e l h =
    let c : claim_of q f.gen f.len ≡ claim_of p e l = row_claim h in
    (refl, ap (λ (x : Claim (List ℕ)). x.path) c, ap (λ (x : Claim (List ℕ)). x.gen) c, ap (λ (x : Claim (List ℕ)). x.len) c)

pub head_from : (h : Head) (c : Claim (List ℕ)) → said h ≡ M.claim c → h ≡ claim c.path c.gen c.len
head_from absent c h = absurd (absent≢claim h)
head_from (idle e) c h = absurd (idle≢claim h)
head_from (claim p e l) c h = ap (λ (x : Claim (List ℕ)). claim x.path x.gen x.len) (head_claim h)

module _ (g : Geometry) where
  abbrev K : Kit
  K = real_kit g

  pub wants_is : (h : Head) → M.wants K (said h) ≡ wants h
  unfolding wants
  wants_is absent = refl
  wants_is (idle e) = refl
  wants_is (claim p e l) = refl

  holds_is : (rows : List Row) (i : ℕ) (p : List ℕ) (e l : ℕ) → Holds rows i p e l ↔ M.row_at K (map plain rows) i ≡ M.bound (claim_of p e l)
  holds_is rows i p e l = (
    λ h. rows_at g rows i ∙ row_to (at rows i) p e l h.bound h.path h.gen h.len,
    λ h. let r = row_from_lem (at rows i) p e l (sym (rows_at g rows i) ∙ h) in record { bound = r.0; path = r.1; gen = r.2; len = r.3 },
  )

  module _ (H : ℕ → Head) (n : ℕ) where
    abbrev saids : ℕ → M.Head (List ℕ)
    saids j = said (H j)

    best_is : (i : ℕ) (p : List ℕ) (e l : ℕ) → B.Best K saids n i (claim_of p e l) ↔ Best H n i p e l
    best_is i p e l = (
      λ b.
          record {
            among = b.among;
            claims = head_from (H i) (claim_of p e l) b.claims;
            over = λ j q f m k ne h s. b.over j (claim_of q f m) k ne (ap said h) s;
          },
      λ b.
          record {
            among = b.among;
            claims = ap said b.claims;
            over = λ j c k ne h s. b.over j c.path c.gen c.len k ne (head_from (H j) c h) s;
          },
    )

    pub rule_is : (rows : List Row) → B.Rule K saids n (map plain rows) → Rule H n rows
    rule_is rows R =
        record {
          size = sym (length-map rows plain) ∙ R.size;
          holder = λ i p e l. (
            λ h. (best_is i p e l).0 ((R.holder i (claim_of p e l)).0 ((holds_is rows i p e l).0 h)),
            λ b. (holds_is rows i p e l).1 ((R.holder i (claim_of p e l)).1 ((best_is i p e l).1 b)),
          );
          claimed = λ p j q f m k h s.
              let r = R.claimed p j (claim_of q f m) k (ap said h) s in
              let c = r.0 in
              let b : B.Best K saids n (find p rows) c = subst (λ (i : ℕ). B.Best K saids n i c) (sym (find_is g p rows)) r.2 in
              (c.path, c.gen, c.len, r.1, (best_is (find p rows) c.path c.gen c.len).0 b);
          unclaimed = λ p no. find_is g p rows ∙ R.unclaimed p (λ j c k h. no j c.path c.gen c.len k (head_from (H j) c h));
        }

    pub registered_are : (dirs : List (List ℕ)) → B.Registered K saids n dirs → Registered H n dirs
    registered_are dirs R =
        record {
          each = λ d j q f m k h i. R.each d j (claim_of q f m) k (ap said h) i;
          only = λ d i.
              let r = R.only d i in
              let c = r.1 in
              (r.0, c.path, c.gen, c.len, r.2, head_from (H r.0) c r.3, r.4);
          once = R.once;
        }

  -- ---- pools

  module _ (p q ls ks : List ℕ) (v w : World) where
    pub files_are : P.SameFiles K (shown_w g p ls v) (shown_w g q ks w) → SameFiles v.state w.state
    files_are F =
        let a = v.state.rows in
        let b = w.state.rows in
        record {
          found = λ x. find_is g x a ∙ F.found x ∙ sym (find_is g x b);
          held = λ i x e l. (
            λ h. (holds_is b i x e l).1 ((F.held i (claim_of x e l)).0 ((holds_is a i x e l).0 h)),
            λ h. (holds_is a i x e l).1 ((F.held i (claim_of x e l)).1 ((holds_is b i x e l).0 h)),
          );
        }

    pub dirs_are : P.SameDirs K (shown_w g p ls v) (shown_w g q ks w) → SameDirs v.state w.state
    unfolding P.SameDirs SameDirs
    dirs_are F = F

    pub free_are : P.SameFree K (shown_w g p ls v) (shown_w g q ks w) → SameFree v.state w.state
    unfolding P.SameFree SameFree
    free_are F = F

  fine_are : (plan ls is : List ℕ) (w : World) → AllFine plan g is w → P.AllFine K is (shown_w g plan ls w)
  unfolding AllFine P.AllFine
  fine_are plan ls [] w f = tt
  fine_are plan ls (i ∷ is) w f =
      (f.0, subst (P.AllFine K is) (release_shown g plan ls i w) (fine_are plan ls is (release_m plan g i w) f.1))

  -- that none fails
  pub none_is : (plan : List ℕ) (k : ℕ) (w : World) → Shape g w.dev.bytes w.dev.phys → Dirs w.state.dirs
      → Untouched plan (length w.state.rows) k w.dev
      → length w.state.rows + k ≤ length w.dev.phys → (ls : List ℕ) → NoneFails plan g k w → P.NoneFails K k (shown_w g plan ls w)
  unfolding NoneFails P.NoneFails
  none_is plan k w s D u room ls f =
      let v = surveyed plan g k w in
      subst (λ (x : M.State K). P.AllFine K x.losers x) (standing_is g plan k w s D u room ∙ sym (survey_is g plan k w s D u room ls))
      (fine_are plan v.losers v.losers (standing plan g k w) f)

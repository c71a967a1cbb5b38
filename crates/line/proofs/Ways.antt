-- The ways out of the commands, over plain values: each takes what the calls come to, and the contract of the writer of its answer.
use Prim.Native.Nat.{ℕ, ◌+◌, ◌-◌, ◌≤◌, ◌<◌}
use native.Mathlib.Omega.{arith}
use mathlib.Core.Path.{◌≡◌, refl, sym, ap, subst, ◌∙◌}
use mathlib.Core.Bool.{true, false}
use mathlib.Core.List.{List, [], ◌∷◌}
use lib.Dec.{eqb}
use lib.ListN.{length, take, drop, length-drop}
use lib.Seq.{take_all}
use borrow.Author.Tests.{eq-eqb, ne_eqb}
use Rattle.device.specs.declared.Geometry.{Geometry}
use Rattle.pool_steps.specs.World.{Lent}
use Rattle.calls_gate.specs.declared.Call.{Call}
use Rattle.calls_gate.specs.declared.Call.TheVariants.{OpenWrite, OpenRead, Sync, Rename, RemoveFile}
use Rattle.calls_gate.specs.declared.Opening.{Opening}
use Rattle.calls_gate.specs.declared.Told.{Told}
use Rattle.calls_gate.specs.Replies.{Came, came}
use Rattle.calls_gate.specs.Table.{opening}
use Rattle.calls_gate.specs.Calls.{call_p}
use Rattle.output.specs.Writer.{Shown, poured}
use Rattle.line_words.specs.declared.Command as command
use Rattle.line_words.specs.declared.Command.TheVariants as commands
use Rattle.line_words.specs.Commands.{Request, request_of, read_as, InLine, Means}
use Rattle.line_answers.specs.Answers.{what_text, no_text, end_text, open_text}
use Rattle.line_dump.specs.Dump.{dump_answer}
use Rattle.line.specs.Lines.{card, on_card, create_t, sync_t, number_t, request_t, line_t, Printed, printed, prints}

-- ---- a call

none_left : (b : List ℕ) → length b ≡ 0 → b ≡ []
none_left [] e = refl
none_left (x ∷ b) e = absurd (omega (arith, e))

pub on_card_is : (c : Call) (one two buf : List ℕ) (l x : Lent) (n : ℕ) (t : Told) (g : Geometry) → g ≡ card → length buf ≡ 0
    → came n t x buf ≡ call_p [] g c one two [] l → came n t x [] ≡ on_card c one two l
unfolding on_card
on_card_is c one two buf l x n t g eg eb e = ap (came n t x) (sym (none_left buf eb)) ∙ e ∙ ap (λ (y : Geometry). call_p [] y c one two [] l) eg

-- ---- the commands

module _ (l : Lent) (out : List ℕ) (x : Came) (n : ℕ) (f : n ≡ x.number) where
  pub ends : (c : Call) (one two : List ℕ) {s : Shown} → x ≡ on_card c one two l → s ≡ poured (end_text n) out
      → printed s x.left ≡ prints (number_t c one two l) out
  unfolding number_t prints
  ends c one two e h = rw (← e) (ap (λ (y : Shown). printed y x.left) (h ∙ ap (λ (k : ℕ). poured (end_text k) out) f))

  pub creates : (path : List ℕ) {s : Shown} (h : Opening) → h ≡ opening false → x ≡ on_card (OpenWrite h) path [] l
      → s ≡ poured (open_text n x.told.slot x.told.generation x.told.len) out → printed s x.left ≡ prints (create_t path l) out
  unfolding create_t prints
  creates path h t e p =
      let q : (k : ℕ) → List ℕ = λ k. open_text k x.told.slot x.told.generation x.told.len in
      let d = e ∙ ap (λ (y : Opening). on_card (OpenWrite y) path [] l) t in
      rw (← d) (ap (λ (y : Shown). printed y x.left) (p ∙ ap (λ (k : ℕ). poured (q k) out) f))

  module _ (path : List ℕ) (e : x ≡ on_card OpenRead path [] l) where
    pub sync_no : {s : Shown} → (n ≡ 0 → ⊥) → s ≡ poured (no_text n) out → printed s x.left ≡ prints (sync_t path l) out
    unfolding sync_t prints
    sync_no h q =
        let z : eqb x.number 0 ≡ false = ne_eqb x.number 0 (λ y. h (f ∙ y)) in
        rw (← e, z) (ap (λ (y : Shown). printed y x.left) (q ∙ ap (λ (k : ℕ). poured (no_text k) out) f))

    pub sync_goes : {s : Printed} → n ≡ 0 → s ≡ prints (number_t (Sync x.told.slot x.told.generation) [] [] x.left) out
        → s ≡ prints (sync_t path l) out
    unfolding sync_t
    sync_goes h q = let z : eqb x.number 0 ≡ true = eq-eqb x.number 0 (sym f ∙ h) in rw (← e, z) q

-- ---- a line

-- a path that goes to the line's end
rest : (line : List ℕ) (i : ℕ) → take (length line - i) (drop i line) ≡ drop i line
rest line i = take_all (length line - i) (drop i line) (omega (arith, length-drop i line))

module _ (line : List ℕ) (c : command.Command) (M : Means line c (request_of line)) where
  same_request : (d : command.Command) → c ≡ d → (l : Lent) (out : List ℕ) → prints (request_t (read_as line d) l) out ≡ prints (line_t line l) out
  unfolding line_t
  same_request d e l out = ap (λ (q : Request). prints (request_t q l) out) (ap (read_as line) (sym e) ∙ M.same)

  pub create_fits : (i : ℕ) → c ≡ commands.Create i → i ≤ length line
  unfolding InLine
  create_fits i e = subst (InLine (length line)) e M.inside

  pub sync_fits : (i : ℕ) → c ≡ commands.Sync i → i ≤ length line
  unfolding InLine
  sync_fits i e = subst (InLine (length line)) e M.inside

  pub remove_fits : (i : ℕ) → c ≡ commands.Remove i → i ≤ length line
  unfolding InLine
  remove_fits i e = subst (InLine (length line)) e M.inside

  pub move_fits : (i j : ℕ) → c ≡ commands.Move i j → (i ≤ j) × (j < length line)
  unfolding InLine
  move_fits i j e = subst (InLine (length line)) e M.inside

  module _ (l : Lent) (out : List ℕ) {s : Printed} where
    pub create_line : (i : ℕ) → c ≡ commands.Create i → s ≡ prints (create_t (take (length line - i) (drop i line)) l) out → s ≡ prints (line_t line l) out
    unfolding request_t read_as
    create_line i e q = q ∙ ap (λ (p : List ℕ). prints (create_t p l) out) (rest line i) ∙ same_request (commands.Create i) e l out

    pub sync_line : (i : ℕ) → c ≡ commands.Sync i → s ≡ prints (sync_t (take (length line - i) (drop i line)) l) out → s ≡ prints (line_t line l) out
    unfolding request_t read_as
    sync_line i e q = q ∙ ap (λ (p : List ℕ). prints (sync_t p l) out) (rest line i) ∙ same_request (commands.Sync i) e l out

    pub remove_line : (i : ℕ) → c ≡ commands.Remove i → s ≡ prints (number_t RemoveFile (take (length line - i) (drop i line)) [] l) out
        → s ≡ prints (line_t line l) out
    unfolding request_t read_as
    remove_line i e q =
        q ∙ ap (λ (p : List ℕ). prints (number_t RemoveFile p [] l) out) (rest line i) ∙ same_request (commands.Remove i) e l out

    pub move_line : (i j : ℕ) → c ≡ commands.Move i j
        → s ≡ prints (number_t Rename (take (j - i) (drop i line)) (take (length line - (j + 1)) (drop (j + 1) line)) l) out
        → s ≡ prints (line_t line l) out
    unfolding request_t read_as
    move_line i j e q =
        q ∙ ap (λ (p : List ℕ). prints (number_t Rename (take (j - i) (drop i line)) p l) out) (rest line (j + 1))
        ∙ same_request (commands.Move i j) e l out

  module _ (l : Lent) (out : List ℕ) {o : Shown} where
    pub dump_line : c ≡ commands.Dump → o ≡ poured (dump_answer l.bufs) out → printed o l ≡ prints (line_t line l) out
    unfolding request_t read_as prints
    dump_line e q = ap (λ (y : Shown). printed y l) q ∙ same_request commands.Dump e l out

    pub what_line : c ≡ commands.What → o ≡ poured what_text out → printed o l ≡ prints (line_t line l) out
    unfolding request_t read_as prints
    what_line e q = ap (λ (y : Shown). printed y l) q ∙ same_request commands.What e l out

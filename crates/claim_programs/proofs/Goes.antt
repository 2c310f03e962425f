-- Lines of the held bytes are taken: what is told, and what is yet to be told of the bytes that are left and of any that come, stays the same. Assumes nothing.
use Prim.Native.Nat.{ℕ, suc, ◌+◌, ◌≤◌, ◌<◌}
use native.Mathlib.Omega.{arith}
use mathlib.Core.Path.{◌≡◌, refl, sym, ap, ◌∙◌}
use mathlib.Core.Bool.{Bool, true, false}
use mathlib.Core.List.{List, [], ◌∷◌, ◌++◌, append_assoc}
use lib.Dec.{ltb}
use lib.ListN.{length, take, drop, length-drop}
use lib.Seq.{drop-drop, length-take-le}
use borrow.Author.Tests.{ltb-true, ltb-false}
use Rattle.rules.specs.Day.{Day, after, ample}
use Rattle.feed_blocks.specs.Lines.{line_length, cut, lines_by, past_line}
use Rattle.feed_blocks.proofs.Ahead.{by_held}
use Rattle.feed_gather.specs.Gather.{last_line, Program, Progress, line_taken, room_left, lines_taken}
use Rattle.feed_gather.proofs.Blocks.{taken_on, taken_off, taken_none, room_out, room_number}
use Rattle.feed_gather.proofs.Within.{ended_line, ended_none}
use Rattle.claim_programs.specs.Told.{Text, told_of_lines, Tells}
use Rattle.claim_programs.proofs.Lines.{told_on, On, Took, takes}

-- a text `t` of which `p` and `q` have gathered the parts `a` and `b`
abbrev pub Same : Text → List ℕ → Day → ℕ → List ℕ → List ℕ → Day → ℕ → List ℕ → Type 0
Same t a day n u b day' n' u' = (w : Bool) (f : List ℕ) → a ++ told_of_lines t day n (lines_by w (u ++ f)) ≡ b ++ told_of_lines t day' n' (lines_by w (u' ++ f))

pub record Goes (out err : Text) (u : List ℕ) (p q : Progress) (day : Day) : Type 0 where
  pub steps : ℕ
  pub within : steps ≤ length u
  pub used_is : q.at ≡ p.at + steps
  pub day' : Day
  pub on : On q day'
  pub out_is : Same out p.out day p.number u q.out day' q.number (drop steps u)
  pub err_is : Same err p.err day p.number u q.err day' q.number (drop steps u)

stays : (out err : Text) (u : List ℕ) (p : Progress) (day : Day) → On p day → Goes out err u p p day
stays out err u p day h = record { steps = 0; within = omega arith; used_is = omega arith; day' = day; on = h; out_is = λ w f. refl; err_is = λ w f. refl }

-- one text, behind a line
text_on : (t : Text) (day : Day) (n : ℕ) (u a b c : List ℕ) (n' m : ℕ) (day' : Day) (k : ℕ) → line_length u < length u → n ≤ last_line → b ≡ a ++ t day n (take (line_length u) u) → m ≡ n + 1
    → Same t b (after day (ample (take (line_length u) u))) m (past_line u) c day' n' (drop k (past_line u)) → Same t a day n u c day' n' (drop (suc (line_length u) + k) u)
unfolding past_line
text_on t day n u a b c n' m day' k h l e i s w f =
    let line : List ℕ = take (line_length u) u in
    let rest : List (List ℕ) = lines_by w (past_line u ++ f) in
    let d : drop (suc (line_length u) + k) u ≡ drop k (drop (suc (line_length u)) u) = sym (drop-drop k (suc (line_length u)) u) in
    ap (λ (x : List (List ℕ)). a ++ told_of_lines t day n x) (by_held w u f h)
    ∙ (ap (λ (x : List ℕ). a ++ x) (told_on t day n line rest l)
    ∙ (sym (append_assoc a (t day n line) (told_of_lines t (after day (ample line)) (n + 1) rest))
    ∙ (rw (← e, ← i) (s w f) ∙ ap (λ (x : List ℕ). c ++ told_of_lines t day' n' (lines_by w (x ++ f))) (sym d))))

goes_line : (out err : Text) (u : List ℕ) (p p₁ q : Progress) (day : Day) → line_length u < length u → p.number ≤ last_line → Took out err (take (line_length u) u) p p₁ day → Goes out err (past_line u) p₁ q (after day (ample (take (line_length u) u))) → Goes out err u p q day
unfolding past_line
goes_line out err u p p₁ q day h l t g =
    let n : ℕ = line_length u in
    record {
      steps = suc n + g.steps;
      within = omega (arith, g.within, length-drop (suc n) u);
      used_is = omega (arith, g.used_is, t.at_is, length-take-le n u (omega arith));
      day' = g.day';
      on = g.on;
      out_is = text_on out day p.number u p.out p₁.out q.out q.number p₁.number g.day' g.steps h l t.out_is t.number_is g.out_is;
      err_is = text_on err day p.number u p.err p₁.err q.err q.number p₁.number g.day' g.steps h l t.err_is t.number_is g.err_is;
    }

-- the first line of what is held, and those behind it
pub record First (u l : List ℕ) (ls : List (List ℕ)) : Type 0 where
  pub feed : line_length u < length u
  pub line_is : l ≡ take (line_length u) u
  pub rest_is : ls ≡ (cut (past_line u)).ended

first : (u l : List ℕ) (ls : List (List ℕ)) → (l ∷ ls) ≡ (cut u).ended → First u l ls
unfolding past_line
first u l ls e = go (ltb (line_length u) (length u)) refl
  where
    go : (c : Bool) → ltb (line_length u) (length u) ≡ c → First u l ls
    go false k =
        let none = ended_none u (ltb-false (line_length u) (length u) k) in
        absurd (let z : ◌≡◌ {A = ℕ} 0 1 = cc in omega arith)
    go true k =
        let i = ltb-true (line_length u) (length u) k in
        let f = ended_line u i in
        record { feed = i; line_is = cc; rest_is = cc }

module _ {g : Program} {out err : Text} (tells : Tells g out err) (room told : ℕ) where
  module _ (l : List ℕ) (ls : List (List ℕ)) (u : List ℕ) (p : Progress) (day : Day) (h : On p day) where
    stop : room_left g room told (length p.out) (length p.err) p.number ≡ false → Goes out err u p (lines_taken g room told (l ∷ ls) p) day
    stop r = rw (taken_off g room told l ls p r) (stays out err u p day h)

    more : First u l ls → room_left g room told (length p.out) (length p.err) p.number ≡ true
        → (On (line_taken g room l p) (after day (ample l)) → Goes out err (past_line u) (line_taken g room l p) (lines_taken g room told ls (line_taken g room l p)) (after day (ample l)))
        → Goes out err u p (lines_taken g room told (l ∷ ls) p) day
    more i r on =
        let t = takes tells room l p day h (room_out g room told (length p.out) (length p.err) p.number r) in
        rw (taken_on g room told l ls p r) (goes_line out err u p (line_taken g room l p) _ day i.feed (room_number g room told (length p.out) (length p.err) p.number r) (rw (← i.line_is) t) (rw (← i.line_is) (on t.on)))

  pub goes : (ls : List (List ℕ)) (u : List ℕ) (p : Progress) (day : Day) → ls ≡ (cut u).ended → On p day → Goes out err u p (lines_taken g room told ls p) day
  goes [] u p day e h = rw taken_none (stays out err u p day h)
  goes (l ∷ ls) u p day e h = go (room_left g room told (length p.out) (length p.err) p.number) refl (goes ls (past_line u) (line_taken g room l p) (after day (ample l)))
    where
      go : (b : Bool) → room_left g room told (length p.out) (length p.err) p.number ≡ b
          → (ls ≡ (cut (past_line u)).ended → On (line_taken g room l p) (after day (ample l)) → Goes out err (past_line u) (line_taken g room l p) (lines_taken g room told ls (line_taken g room l p)) (after day (ample l))) → Goes out err u p (lines_taken g room told (l ∷ ls) p) day
      go false r on = stop l ls u p day h r
      go true r on = let i = first u l ls e in more l ls u p day h i r (on i.rest_is)

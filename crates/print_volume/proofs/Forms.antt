-- Laws of a volume's form: that it is the right one, and what is written by it. Assumes nothing.
use Prim.Native.Nat.{ℕ, ◌+◌, ◌-◌, ◌/◌, ◌%◌, ◌^◌, ◌≤◌, ◌<◌}
use native.Mathlib.Omega.{arith}
use mathlib.Core.Path.{◌≡◌, sym, ap, ◌∙◌}
use mathlib.Core.Bool.{Bool, true, false, ◌&&◌, ◌||◌, not}
use mathlib.Core.List.{List, [], ◌++◌}
use lib.ListN.{length, take, drop, length-take, length-drop}
use lib.Dec.{eqb, ltb}
use borrow.Author.Tests.{eq-eqb, ne_eqb, lt-ltb, le-ltb, eqb-true, not-false}
use Rattle.text.specs.Pick.{pick}
use Rattle.text.specs.Put.{Written}
use Rattle.text.proofs.Booleans.{or_left}
use Rattle.text.proofs.Writing.{joined, named, room, fits, shorter, length_joined, written_nothing}
use Rattle.rules.specs.Volume.{full_volume, is_round, in_shares, in_hundreds, in_tens, volume_text}
use Rattle.print_volume.specs.declared.Form.{Form}
use Rattle.print_volume.specs.Form.{marks, marked_text, shares, hundreds, tens, full_hundreds, full_tens, form_of, Formed}
use Rattle.print_volume.proofs.VolumeBack.{small}

-- ---- which form

module _ (network unit v : ℕ) (b : Bool) (e : b ≡ (not (is_round unit v) || (eqb network 66 && ltb unit 100))) where
  whole : v / 1 ≡ v
  whole = omega arith

  in_shares_lem : shares ≡ form_of network unit v → volume_text network unit v ≡ in_shares v → Formed network unit v shares
  unfolding in_shares marked_text pick
  in_shares_lem d t = record { form_is = d; text_is = t ∙ rw whole; cut_most = λ o. o; cut_few = omega arith; mark_most = omega arith; size_most = omega arith }

  pub formed_shares : b ≡ true → Formed network unit v shares
  unfolding form_of volume_text pick
  formed_shares h = in_shares_lem (rw (sym e ∙ h)) (rw (sym e ∙ h))

  module _ (h : b ≡ false) where
    round : v % unit ≡ 0
    unfolding is_round
    round = eqb-true (v % unit) 0 (not-false (eqb (v % unit) 0) (or_left _ _ (sym e ∙ h)))

    module _ (l : v < 10000) where
      pub formed_hundreds : unit ≡ 100 → Formed network unit v hundreds
      unfolding form_of volume_text in_hundreds marked_text pick
      formed_hundreds u =
          let r : v % 100 ≡ 0 = ap (λ (n : ℕ). v % n) (sym u) ∙ round in
          record { form_is = rw (sym e ∙ h, eq-eqb unit 100 u, lt-ltb v 10000 l); text_is = rw (sym e ∙ h, eq-eqb unit 100 u, lt-ltb v 10000 l, small (v / 100) (omega arith)); cut_most = λ o. omega arith; cut_few = omega arith; mark_most = omega arith; size_most = omega arith }

      pub formed_tens : (unit ≡ 100 → ⊥) → v % 10 ≡ 0 → Formed network unit v tens
      unfolding form_of volume_text in_tens marked_text pick
      formed_tens u r = record { form_is = rw (sym e ∙ h, ne_eqb unit 100 u, lt-ltb v 10000 l, eq-eqb (v % 10) 0 r); text_is = rw (sym e ∙ h, ne_eqb unit 100 u, lt-ltb v 10000 l, eq-eqb (v % 10) 0 r, small (v / 10) (omega arith)); cut_most = λ o. omega arith; cut_few = omega arith; mark_most = omega arith; size_most = omega arith }

      pub formed_odd : (unit ≡ 100 → ⊥) → (v % 10 ≡ 0 → ⊥) → Formed network unit v shares
      unfolding form_of volume_text in_tens pick
      formed_odd u r = in_shares_lem (rw (sym e ∙ h, ne_eqb unit 100 u, lt-ltb v 10000 l, ne_eqb (v % 10) 0 r)) (rw (sym e ∙ h, ne_eqb unit 100 u, lt-ltb v 10000 l, ne_eqb (v % 10) 0 r))

    module _ (l : 10000 ≤ v) where
      pub formed_full_hundreds : unit ≡ 100 → Formed network unit v full_hundreds
      unfolding form_of volume_text in_hundreds marked_text pick
      formed_full_hundreds u = record { form_is = rw (sym e ∙ h, eq-eqb unit 100 u, le-ltb v 10000 l); text_is = rw (sym e ∙ h, eq-eqb unit 100 u, le-ltb v 10000 l, whole); cut_most = λ o. o; cut_few = omega arith; mark_most = omega arith; size_most = omega arith }

      pub formed_full_tens : (unit ≡ 100 → ⊥) → Formed network unit v full_tens
      unfolding form_of volume_text in_tens marked_text pick
      formed_full_tens u = record { form_is = rw (sym e ∙ h, ne_eqb unit 100 u, le-ltb v 10000 l); text_is = rw (sym e ∙ h, ne_eqb unit 100 u, le-ltb v 10000 l, whole); cut_most = λ o. o; cut_few = omega arith; mark_most = omega arith; size_most = omega arith }

-- ---- nothing, or figures and a mark

module _ (network unit v : ℕ) (f : Form) (b : Bool) (g : Formed network unit v f) (e : b ≡ (eqb f.mark 0 && eqb v 100)) where
  module _ (h : b ≡ true) where
    unsaid_is : volume_text network unit v ≡ []
    unfolding pick
    unsaid_is = g.text_is ∙ rw (sym e ∙ h)

    pub unsaid_long : 0 ≡ length (volume_text network unit v)
    unsaid_long = rw unsaid_is

    pub unsaid_written : (rest : List ℕ) → Written (volume_text network unit v) rest rest 0
    unsaid_written rest = named unsaid_is (written_nothing rest)

  module _ (h : b ≡ false) where
    pub said_is : volume_text network unit v ≡ marked_text f v
    unfolding pick
    said_is = g.text_is ∙ rw (sym e ∙ h)

    module _ (n : ℕ) (q : n ≡ v / 10 ^ f.cut) where
      abbrev mark : List ℕ
      mark = take (f.mark + f.size - f.mark) (drop f.mark marks)

      in_marks : f.mark + f.size ≤ 12
      in_marks = omega (arith, g.mark_most, g.size_most)

      text : volume_text network unit v ≡ full_volume n ++ mark
      unfolding marked_text
      text =
          let s : f.mark + f.size - f.mark ≡ f.size = omega arith in
          said_is ∙ rw (q, s)

      pub said_long : (r : ℕ) → r ≡ length (full_volume n) → r + f.size ≡ length (volume_text network unit v)
      said_long r p =
          let l : f.size ≡ length mark = omega (arith, in_marks, length-take (f.mark + f.size - f.mark) (drop f.mark marks), length-drop f.mark marks) in
          rw text (length_joined (full_volume n) mark r f.size p l)

      module _ (rest : List ℕ) where
        pub figures_room : length (volume_text network unit v) ≤ length rest → length (full_volume n) ≤ length rest
        figures_room l = shorter (full_volume n) mark (length rest) (fits _ _ _ l text)

        module _ (xs : List ℕ) (at : ℕ) (w : Written (full_volume n) rest xs at) where
          pub mark_room : length (volume_text network unit v) ≤ length rest → length mark ≤ length (take (length xs - at) (drop at xs))
          mark_room l = room mark w (fits _ _ _ l text)

          pub said_written : (ys : List ℕ) (m : ℕ) → Written mark (take (length xs - at) (drop at xs)) ys m → Written (volume_text network unit v) rest (take at xs ++ (ys ++ drop (length xs - at) (drop at xs))) (at + m)
          said_written ys m x = joined w x text

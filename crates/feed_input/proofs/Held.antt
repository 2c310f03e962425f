-- What is held after a read, and after some of it is used. Assumes nothing.
use Prim.Native.Nat.{ℕ, ◌+◌, ◌-◌, ◌≤◌, min}
use native.Mathlib.Omega.{arith}
use mathlib.Core.Path.{◌≡◌, refl, sym, ap, ◌∙◌}
use mathlib.Core.Bool.{Bool, true, false}
use mathlib.Core.List.{List, [], ◌∷◌, ◌++◌, append-nil}
use lib.Dec.{eqb}
use lib.ListN.{length, take, drop, length-take, length-drop}
use lib.Seq.{take_at, take-add, drop-drop}
use borrow.Author.Tests.{eqb-true, eqb-false}
use Rattle.std.specs.Prelude.{Result, Ok, Err}
use Rattle.text.specs.Pick.{pick}
use Rattle.text.specs.Put.{put}
use Rattle.text.proofs.Booleans.{false_true}
use Rattle.text.proofs.Writing.{length_put}
use Rattle.feed_input.specs.Place.{Answer, Within, held_from, held, came_of, is_failure, taken_in, gone_on, block_on}
use Rattle.feed_input.specs.Answers.{Kept, Answers}
use Rattle.feed_input.specs.Answers.Answers.{unasked, came, fails}
use Rattle.feed_input.specs.declared.Place.{Place}
use Rattle.feed_input.specs.declared.ReadFailed.{ReadFailed}
use Rattle.feed_input.proofs.Places.{came_most, drop_take}

pub length_held : (p : Place) (block : List ℕ) → Within p (length block) → length (held p block) ≡ p.have - p.at
length_held p block w = simp (length-take, length-drop) (omega (arith, w.from_to, w.to_end))

-- what the block keeps is held still
kept_held : (p : Place) (block block' : List ℕ) → Kept p block block' → held p block' ≡ held p block
kept_held p block block' k = sym (drop_take p.at p.have block') ∙ (ap (drop p.at) k.kept ∙ drop_take p.at p.have block)

-- ---- after a read

-- within the block, what is held is taken as it stands
module _ (p : Place) (size : ℕ) (w : Within p size) where
  have_is : min p.have size ≡ p.have
  have_is = omega (arith, w.to_end)

  at_is : min p.at (min p.have size) ≡ p.at
  at_is = omega (arith, w.to_end, w.from_to)

  pub in_quiet : (z : Answer) → p.asks ≡ false → taken_in p z size ≡ record { at = p.at; have = p.have; asks = false; ended = p.ended; failed = p.failed }
  unfolding taken_in pick
  in_quiet z e = rw (e, at_is, have_is)

  pub in_came : (n : ℕ) → p.asks ≡ true → p.have + n ≤ size → taken_in p (Ok n) size ≡ record { at = p.at; have = p.have + n; asks = false; ended = eqb n 0; failed = false }
  unfolding taken_in pick came_of is_failure
  in_came n e l = let m : min n (size - p.have) ≡ n = omega arith in rw (e, at_is, have_is, m)

  pub in_failed : (failure : ReadFailed) → p.asks ≡ true → taken_in p (Err failure) size ≡ record { at = p.at; have = p.have; asks = false; ended = true; failed = true }
  unfolding taken_in pick came_of is_failure
  in_failed failure e = let z : p.have + 0 ≡ p.have = omega arith in rw (e, at_is, have_is, z)

-- what a read leaves: the bytes that came stand behind those that were held; where it is not the end, one came at least
pub record After (p : Place) (block bytes block' : List ℕ) (q : Place) : Type 0 where
  pub within : Within q (length block')
  pub size : length block' ≡ length block
  pub held_is : held q block' ≡ held p block ++ bytes
  pub came_some : p.asks ≡ true → q.ended ≡ false → 1 ≤ length bytes
  pub quiet : p.asks ≡ false → (q.ended ≡ p.ended) × (q.failed ≡ p.failed)
  pub none_left : q.ended ≡ true → p.asks ≡ true → bytes ≡ []

empty : (l : List ℕ) → length l ≡ 0 → l ≡ []
empty [] h = refl
empty (x ∷ l) h = absurd (omega arith)

pub after_read : {p : Place} {block bytes block' : List ℕ} {z : Answer} → Within p (length block) → Answers p block bytes z block' → After p block bytes block' (taken_in p z (length block))
after_read {p} {block} w (unasked z e) =
    rw (in_quiet p (length block) w z e)
    (record {
      within = record { from_to = w.from_to; to_end = w.to_end };
      size = refl;
      held_is = sym (append-nil (held p block));
      came_some = λ a. absurd (false_true (sym e ∙ a));
      quiet = λ a. (refl, refl);
      none_left = λ a b. refl;
    })
after_read {p} {block} {bytes} {block'} w (came e k l c) =
    let n : ℕ = length bytes in
    let d : p.have + n - p.at ≡ p.have - p.at + n = omega (arith, w.from_to) in
    let j : p.have - p.at + p.at ≡ p.have = omega (arith, w.from_to) in
    rw (in_came p (length block) w n e l)
    (record {
      within = record { from_to = omega (arith, w.from_to); to_end = omega (arith, k.size) };
      size = k.size;
      held_is = rw (d, take-add (p.have - p.at) n (drop p.at block'), drop-drop (p.have - p.at) p.at block') (ap (λ (x : List ℕ). x ++ take n (drop (p.at + (p.have - p.at)) block')) (kept_held p block block' k) ∙ ap (λ (m : ℕ). held p block ++ take n (drop m block')) (let y : p.at + (p.have - p.at) ≡ p.have = omega (arith, w.from_to) in y) ∙ ap (λ (x : List ℕ). held p block ++ x) c);
      came_some = λ a b. let h = eqb-false n 0 b in omega (arith, h);
      quiet = λ a. absurd (false_true (sym a ∙ e));
      none_left = λ a b. empty bytes (eqb-true n 0 a);
    })
after_read {p} {block} {bytes} {block'} w (fails code e k) =
    rw (in_failed p (length block) w code e)
    (record {
      within = record { from_to = w.from_to; to_end = omega (arith, k.size, w.to_end) };
      size = k.size;
      held_is = kept_held p block block' k ∙ sym (append-nil (held p block));
      came_some = λ a b. absurd (false_true (sym b));
      quiet = λ a. absurd (false_true (sym a ∙ e));
      none_left = λ a b. refl;
    })

-- ---- after some of it is used

module _ (p : Place) (n : ℕ) (block : List ℕ) (w : Within p (length block)) (l : p.at + n ≤ p.have) where
  left : held_from p (p.at + n) block ≡ drop n (held p block)
  left = let e : p.have - (p.at + n) ≡ p.have - p.at - n = omega arith in rw (drop_take n (p.have - p.at) (drop p.at block), drop-drop n p.at block, e)

  length_left : length (held_from p (p.at + n) block) ≡ p.have - (p.at + n)
  length_left = simp (length-take, length-drop) (omega (arith, w.to_end))

  -- what is held then
  pub held_on : (reads : Bool) → held (gone_on reads p n) (block_on reads p n block) ≡ drop n (held p block)
  unfolding gone_on block_on pick put
  held_on true =
      let e : p.have - (p.at + n) - 0 ≡ p.have - (p.at + n) = omega arith in
      rw e (take_at (held_from p (p.at + n) block) _ (p.have - (p.at + n)) length_left ∙ left)
  held_on false = left

  pub size_on : (reads : Bool) → length (block_on reads p n block) ≡ length block
  unfolding block_on pick
  size_on true = length_put (held_from p (p.at + n) block) block (omega (arith, length_left, w.to_end))
  size_on false = refl

  pub within_on : (reads : Bool) → Within (gone_on reads p n) (length block)
  unfolding gone_on pick
  within_on true = record { from_to = omega arith; to_end = omega (arith, w.to_end) }
  within_on false = record { from_to = l; to_end = w.to_end }

-- the rest of a place after that
pub asks_on : (reads : Bool) (p : Place) (n : ℕ) → (gone_on reads p n).asks ≡ reads
unfolding gone_on pick
asks_on true p n = refl
asks_on false p n = refl

pub ended_on : (reads : Bool) (p : Place) (n : ℕ) → (gone_on reads p n).ended ≡ p.ended
unfolding gone_on pick
ended_on true p n = refl
ended_on false p n = refl

pub failed_on : (reads : Bool) (p : Place) (n : ℕ) → (gone_on reads p n).failed ≡ p.failed
unfolding gone_on pick
failed_on true p n = refl
failed_on false p n = refl

-- whatever the place was
pub in_within : (p : Place) (z : Answer) (size : ℕ) → Within (taken_in p z size) size
unfolding taken_in pick
in_within p z size = go p.asks refl
  where
    go : (b : Bool) → p.asks ≡ b → Within (taken_in p z size) size
    go true e = rw (e, taken_in) (record { from_to = omega arith; to_end = omega (arith, came_most z (size - min p.have size)) })
    go false e = rw (e, taken_in) (record { from_to = omega arith; to_end = omega arith })

-- What a call of a reader leaves, as a read may leave it; and what it took of the reader's bytes. Assumes nothing.
use Prim.Native.Nat.{ℕ, ◌+◌, ◌-◌, ◌≤◌}
use native.Mathlib.Omega.{arith}
use mathlib.Core.Path.{◌≡◌, ap, ◌∙◌, subst}
use mathlib.Core.Bool.{true, false, not, true≢false}
use mathlib.Core.List.{List, [], ◌++◌, append-nil}
use lib.ListN.{length, take, drop, length-append, length-take, length-drop}
use lib.Seq.{take_at, drop_at, length-take-le, take-append-le, take-add}
use borrow.Author.Tests.{not-true, not-false}
use borrow.Rule.Slice.PartMut.{put_mid}
use Rattle.std.specs.Prelude.{Result, Ok, Err, is_ok, MatchResult, IfOk}
use Rattle.std.specs.Counts.{IsPrefixLen}
use Rattle.std.specs.Io.KnownBytes.{Consumes}
use Rattle.std.specs.declared.option.Option.{Option}
use Rattle.std.proofs.KnownBytes.{Consumes-nil, Consumes-kept}
use Rattle.std.proofs.lemmas.List.{drop_all}
use Rattle.feed_input.specs.Place.{Answer, Within}
use Rattle.feed_input.specs.Answers.{Kept, Answers}
use Rattle.feed_input.specs.Answers.Answers.{unasked, came, fails}
use Rattle.feed_input.specs.declared.Place.{Place}
use Rattle.feed_input.specs.declared.ReadFailed.{ReadFailed}
use Rattle.feed_refill.specs.Read.{Reading, Taken}

module _ (p : Place) (block : List ℕ) where
  pub no_read : (z : Answer) → not p.asks ≡ true → Reading p block block z
  no_read z e = record { bytes = []; answers = unasked z (not-true p.asks e) }

  -- the lent part was `take (length block - have) (drop have block)`, and is `ys`
  module _ (ys : List ℕ) (w : Within p (length block)) (asked : not p.asks ≡ false) (same : length ys ≡ length (take (length block - p.have) (drop p.have block))) where
    abbrev block' : List ℕ
    block' = put_mid p.have (length block - p.have) block ys

    size : length ys ≡ length block - p.have
    size = same ∙ simp (length-take, length-drop) (omega arith)

    kept : Kept p block block'
    kept = record {
      size = simp (length-append, length-take, length-drop) (omega (arith, size, w.to_end));
      kept = take_at (take p.have block) _ p.have (length-take-le p.have block w.to_end);
    }

    -- the room behind what is held
    room_is : drop p.have block' ≡ ys
    room_is =
        let none : drop (length block - p.have) (drop p.have block) ≡ [] = drop_all (length block - p.have) (drop p.have block) (rw length-drop (omega arith)) in
        drop_at (take p.have block) _ p.have (length-take-le p.have block w.to_end) ∙ rw none (append-nil ys)

    -- so many bytes came
    one_read : (n : ℕ) → n ≤ length ys → Reading p block block' (Ok n)
    one_read n l =
        let front : take n (drop p.have block') ≡ take n ys = ap (take n) room_is in
        let e : length (take n ys) ≡ n = length-take-le n ys l in
        record { bytes = take n ys; answers = rw e at (came {bytes = take n ys} (not-false p.asks asked) kept (omega (arith, e, size, l, w.to_end)) (rw e front)) }

    failed_read : (f : ReadFailed) → Reading p block block' (Err f)
    failed_read f = record { bytes = []; answers = fails f (not-false p.asks asked) kept }

    -- as the code has it: `r` is what the reader answered, `a` what is said of it
    pub read_so : {E : Type 0} (Q : E → Type 0) (r : Result ℕ E) (a : Answer) → is_ok a ≡ is_ok r → MatchResult r (λ n. a ≡ Ok n) Q → IfOk r (λ n. IsPrefixLen n ys) → Reading p block block' a
    read_so Q (Ok n) a v is l = rw is (one_read n l.0)
    read_so Q (Err e) (Ok n) v is l = absurd (true≢false v)
    read_so Q (Err e) (Err f) v is l = failed_read f

-- so many bytes more stand behind those that came before
pub joined : (a k n : ℕ) (block ys : List ℕ) → a ≤ length block → n ≤ length ys → take (a + n) (put_mid a k block ys) ≡ take a block ++ take n ys
joined a k n block ys h l =
    let e : length (take a block) ≡ a = length-take-le a block h in
    let front : take a (put_mid a k block ys) ≡ take a block = take_at (take a block) _ a e in
    let back : take n (drop a (put_mid a k block ys)) ≡ take n ys = ap (take n) (drop_at (take a block) _ a e) ∙ take-append-le n ys _ l in
    take-add a n (put_mid a k block ys) ∙ ap (λ b. b ++ take n (drop a (put_mid a k block ys))) front ∙ ap (λ b. take a block ++ b) back

-- what a read took of a reader whose bytes are known are the bytes of the link
pub bytes_taken : {p : Place} {block bytes block' : List ℕ} {z : Answer} (left left' : Option (List ℕ)) → Answers p block bytes z block' → Taken p.asks z left left' (drop p.have block') → Consumes left left' bytes
bytes_taken {p} {block} {bytes} {block'} {z} left left' (unasked z' a) t = Consumes-kept left left left' [] (Consumes-nil left) (subst (λ b. Taken b z left left' (drop p.have block')) a t)
bytes_taken {p} {block} {bytes} {block'} {z} left left' (came a k l b) t = subst (Consumes left left') b (subst (λ b. Taken b (Ok (length bytes)) left left' (drop p.have block')) a t).0
bytes_taken {p} {block} {bytes} {block'} {z} left left' (fails f a k) t = Consumes-kept left left left' [] (Consumes-nil left) (subst (λ b. Taken b (Err f) left left' (drop p.have block')) a t)

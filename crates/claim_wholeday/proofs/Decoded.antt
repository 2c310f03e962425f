-- One-sided decoding: from a tape whose calls owe what the decoder asks for, it gives their facts. Assumes nothing.
use Prim.Native.Nat.{ℕ, zero, suc, ◌≤◌}
use native.Mathlib.Omega.{arith}
use mathlib.Core.Path.{◌≡◌, refl}
use mathlib.Core.List.{List, [], ◌∷◌, ◌++◌}
use mathlib.Core.Option.{Option, none, some}
use lib.ListN.{length, length-append}
use Rattle.rules.specs.Day.{Day, Call, tape_of, after}
use Rattle.rules.specs.Shown.{Fact, shown_by, entries, shown}
use Rattle.claim_decoder.specs.Carried.{Carried, carried_of, next}
use Rattle.claim_decoder.specs.Decode.{Names, there, decode}
use Rattle.claim_decoder.proofs.Fresh.{Fresh, fresh_end}
use Rattle.claim_wholeday.specs.Decodes.{Decodes, AllDecode, tape, decode_all}

module _ (names : Names) where
  decode_end : (d : Carried) → decode names d [] ≡ none
  unfolding decode
  decode_end d = refl

  decode_stop : (k : ℕ) (d : Carried) (s : List ℕ) → decode names d s ≡ none → decode_all names k d s ≡ []
  unfolding decode_all
  decode_stop zero d s e = refl
  decode_stop (suc k) d s e = rw (e, decode_all)

  decode_more : (k : ℕ) (d : Carried) (s : List ℕ) (f : Fact) (r : List ℕ) → decode names d s ≡ there f r → decode_all names (suc k) d s ≡ f ∷ decode_all names k (next d f) r
  unfolding decode_all
  decode_more k d s f r e = rw (e, decode_all)

  fresh_tape : (cs : List Call) (day : Day) → AllDecode names day cs → Fresh (tape day cs)
  unfolding tape
  fresh_tape [] day g = fresh_end
  fresh_tape (c ∷ cs) day g = go (tape_of day c) (shown_by day c) g.0 (fresh_tape cs (after day c) g.1)
    where
      go : (text : List ℕ) (o : Option Fact) → Decodes names day (after day c) text o → Fresh (tape (after day c) cs) → Fresh (text ++ tape (after day c) cs)
      go text none t h = rw t.no_text h
      go text (some f) t h = t.starts (tape (after day c) cs)

  -- THE DECODER GIVES THE FACTS
  pub decoded : (cs : List Call) (day : Day) (k : ℕ) → AllDecode names day cs → length (tape day cs) ≤ k → decode_all names k (carried_of day) (tape day cs) ≡ shown day cs
  unfolding tape shown
  decoded [] day k g h = decode_stop k (carried_of day) [] (decode_end (carried_of day))
  decoded (c ∷ cs) day k g h = go k (tape_of day c) (shown_by day c) g.0 h (λ j l. decoded cs (after day c) j g.1 l) (fresh_tape cs (after day c) g.1)
    where
      go : (k : ℕ) (text : List ℕ) (o : Option Fact) → Decodes names day (after day c) text o → length (text ++ tape (after day c) cs) ≤ k
          → ((j : ℕ) → length (tape (after day c) cs) ≤ j → decode_all names j (carried_of (after day c)) (tape (after day c) cs) ≡ shown (after day c) cs)
          → Fresh (tape (after day c) cs)
          → decode_all names k (carried_of day) (text ++ tape (after day c) cs) ≡ entries o ++ shown (after day c) cs
      go k text none t h ih f =
          let l : length (tape (after day c) cs) ≤ k = omega (arith, length-append text (tape (after day c) cs), h) in
          rw (t.no_text, ← t.stays) (ih k l)
      go zero text (some x) t h ih f = absurd (omega (arith, length-append text (tape (after day c) cs), h, t.some_text))
      go (suc k) text (some x) t h ih f =
          let l : length (tape (after day c) cs) ≤ k = omega (arith, length-append text (tape (after day c) cs), h, t.some_text) in
          rw (decode_more k (carried_of day) (text ++ tape (after day c) cs) x (tape (after day c) cs) (t.undone (tape (after day c) cs) f), ← t.follows, ih k l)

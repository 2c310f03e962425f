-- One line, put together. Assumes nothing.
use Prim.Native.Nat.{ℕ, ◌+◌, ◌-◌, ◌^◌, ◌≤◌, ◌<◌}
use native.Mathlib.Omega.{arith}
use mathlib.Core.Path.{◌≡◌, refl, ap, ◌∙◌}
use mathlib.Core.Bool.{Bool, true, false}
use mathlib.Core.List.{List, ◌++◌}
use lib.Dec.{ltb}
use lib.ListN.{length, take, drop, length-append, length-take, length-drop}
use mir.Val.{Fits}
use mir.Syntax.{w64}
use borrow.Author.Tests.{ltb-false}
use Rattle.text.specs.Pick.{pick}
use Rattle.text.specs.Put.{Written}
use Rattle.text.proofs.Writing.{then, named, length_put}
use Rattle.rules.specs.declared.Refusal.TheVariants.{Room}
use Rattle.rules.specs.declared.Settings.{Settings}
use Rattle.call_plan.specs.declared.Plan.{Plan}
use Rattle.call_plan.specs.declared.Plan.TheVariants.{Stop}
use Rattle.call_plan.specs.Plan.{plan_of}
use Rattle.engine.specs.declared.Answer.{Answer}
use Rattle.call_print.specs.Print.{printed_name, text_of, fitted_of, print_of}
use Rattle.engine.specs.Taken.{asked, Taken, count_of}
use Rattle.feed_gather.specs.Gather.{carried, line_taken, Steps}
use Rattle.feed_lines.specs.Feed.{told, day_program}
use Rattle.feed_gather.specs.declared.Fed.{Fed}

-- a print fits the tape that was lent for it
print_fits : (st : Settings) (table names line : List ℕ) (room : ℕ) → length (print_of st names (asked st table names line room)) ≤ room
unfolding asked fitted_of print_of text_of pick
print_fits st table names line room = go (plan_of st table names line) (ltb room (length (text_of st (printed_name names (plan_of st table names line)) (plan_of st table names line)))) refl
  where
    go : (p : Plan) (b : Bool) → ltb room (length (text_of st (printed_name names p) p)) ≡ b → length (print_of st names (pick b (Stop Room) p)) ≤ room
    go p true e = omega arith
    go p false e = ltb-false room (length (text_of st (printed_name names p) p)) e

-- what a call puts on the tape fits it, and the tape stays as long as it was
module _ (st : Settings) (table names line tape table' names' tape' : List ℕ) (a : Answer) (t : Taken st table names line tape table' names' tape' a) where
  pub taken_fits : count_of a.outcome ≤ length tape
  taken_fits = omega (arith, t.count_is, print_fits st table names line (length tape))

  pub taken_size : length tape' ≡ length tape
  taken_size = ap length t.tape_is ∙ length_put (print_of st names (asked st table names line (length tape))) tape (print_fits st table names line (length tape))

-- a call, by what it was lent and what it answered: `n` bytes on the tape, `k` told
module _ (st : Settings) (table names line tape table' names' ys : List ℕ) (a : Answer) (at n : ℕ) where
  -- the sum of the bytes on the tape fits
  pub tape_adds : Taken st table names line (take (length tape - at) (drop at tape)) table' names' ys a → n ≡ count_of a.outcome → at ≤ length tape → length tape < 2 ^ 64 → Fits w64 (at + n)
  tape_adds t c l h =
      let lent : List ℕ = take (length tape - at) (drop at tape) in
      let q : Plan = asked st table names line (length lent) in
      let count : n ≡ length (print_of st names q) = c ∙ t.count_is in
      record { fits = omega (arith, print_fits st table names line (length lent), length-take (length tape - at) (drop at tape), length-drop at tape) }

pub told_adds : (text xs zs : List ℕ) (at k : ℕ) → Written text (take (length xs - at) (drop at xs)) zs k → 14 ≤ length xs - at → length xs < 2 ^ 64 → Fits w64 (at + k)
told_adds text xs zs at k w l h = record { fits = omega (arith, w.within, length-take (length xs - at) (drop at xs), length-drop at xs) }

module _ (f : Fed) (block table names tape refusals table' names' ys zs : List ℕ) (a : Answer) (end n k : ℕ) where
  pub line_fed : Taken f.settings table names (take (end - f.at) (drop f.at block)) (take (length tape - f.out) (drop f.out tape)) table' names' ys a
      → n ≡ count_of a.outcome
      → Written (told f.number a.outcome) (take (length refusals - f.err) (drop f.err refusals)) zs k
      → f.at ≤ end → end ≤ length block
      → Steps day_program (take (end - f.at) (drop f.at block)) table names tape refusals f table' names'
      (take f.out tape ++ (ys ++ drop (length tape - f.out) (drop f.out tape)))
      (take f.err refusals ++ (zs ++ drop (length refusals - f.err) (drop f.err refusals)))
      (record { settings = a.settings; number = f.number + 1; at = end + 1; out = f.out + n; err = f.err + k })
  unfolding line_taken carried
  line_fed t c w l m tape₀ refusals₀ p s =
      let line : List ℕ = take (end - f.at) (drop f.at block) in
      let e : end ≡ f.at + length line = omega (arith, length-take (end - f.at) (drop f.at block), length-drop f.at block) in
      let lent : List ℕ = take (length tape - f.out) (drop f.out tape) in
      let whole : length tape ≡ length tape₀ = ap length s.out_is.tape ∙ length_put p.out tape₀ (omega (arith, s.out_is.count_is, s.out_is.within)) in
      let room : length lent ≡ length tape₀ - length p.out = simp (length-take, length-drop) (omega (arith, s.out_is.count_is)) in
      let q : Plan = asked f.settings table names line (length lent) in
      let print : List ℕ = print_of f.settings names q in
      let is : q ≡ asked p.settings p.table p.names line (length tape₀ - length p.out) = cc in
      let count : n ≡ length print = c ∙ t.count_is in
      let wrote : Written print lent ys n = record { tape = t.tape_is; count_is = count; within = omega (arith, print_fits f.settings table names line (length lent)) } in
      record {
        settings_is = t.settings ∙ (cc);
        number_is = cc;
        at_is = cc;
        table_is = t.table_is ∙ (cc);
        names_is = t.names_is ∙ (cc);
        out_is = named (cc) (then s.out_is wrote);
        err_is = named (cc) (then s.err_is w);
      }

-- and where the line leaves the reading
module _ (f : Fed) (block table names tape refusals table' names' ys zs : List ℕ) (a : Answer) (end n k : ℕ) where
  abbrev tape' : List ℕ
  tape' = take f.out tape ++ (ys ++ drop (length tape - f.out) (drop f.out tape))

  abbrev refusals' : List ℕ
  refusals' = take f.err refusals ++ (zs ++ drop (length refusals - f.err) (drop f.err refusals))

  abbrev next : Fed
  next = record { settings = a.settings; number = f.number + 1; at = end + 1; out = f.out + n; err = f.err + k }

  pub line_gone : Taken f.settings table names (take (end - f.at) (drop f.at block)) (take (length tape - f.out) (drop f.out tape)) table' names' ys a
      → n ≡ count_of a.outcome
      → Written (told f.number a.outcome) (take (length refusals - f.err) (drop f.err refusals)) zs k
      → f.at ≤ end → end ≤ length block → f.out ≤ length tape → 14 ≤ length refusals - f.err
      → Steps day_program (take (end - f.at) (drop f.at block)) table names tape refusals f table' names' tape' refusals' next × (end + 1 ≡ end + 1) × (f.out + n ≤ length tape') × (f.err + k ≤ length refusals')
  line_gone t c w l m lt lr =
      let lent : List ℕ = take (length tape - f.out) (drop f.out tape) in
      let free : List ℕ = take (length refusals - f.err) (drop f.err refusals) in
      let size : length zs ≡ length free = ap length w.tape ∙ length_put (told f.number a.outcome) free (omega (arith, w.count_is, w.within)) in
      let fits = taken_fits f.settings table names (take (end - f.at) (drop f.at block)) lent table' names' ys a t in
      let same = taken_size f.settings table names (take (end - f.at) (drop f.at block)) lent table' names' ys a t in (
        line_fed f block table names tape refusals table' names' ys zs a end n k t c w l m,
        refl,
        simp (length-append, length-take, length-drop) (omega (arith, fits, same, length-take (length tape - f.out) (drop f.out tape), length-drop f.out tape)),
        simp (length-append, length-take, length-drop) (omega (arith, size, w.within, length-take (length refusals - f.err) (drop f.err refusals), length-drop f.err refusals)),
      )

-- There is a session for every input: the theorems over sessions speak of something. Each of its reads brings one byte. Assumes nothing.
use Prim.Native.Nat.{ℕ, zero, suc, ◌+◌, ◌≤◌, ◌<◌}
use native.Mathlib.Omega.{arith}
use mathlib.Core.Path.{◌≡◌, refl, sym, ap, ◌∙◌}
use mathlib.Core.Bool.{Bool, true, false, not}
use mathlib.Core.List.{List, [], ◌∷◌, ◌++◌, append_assoc}
use lib.ListN.{length, take, drop, length-append, length-drop}
use lib.Seq.{take_at, drop_at, length-take-le}
use Rattle.std.specs.Prelude.{Ok}
use Rattle.text.specs.Put.{put}
use Rattle.text.proofs.Booleans.{false_true}
use Rattle.rules.specs.Sizes.{longest_print}
use Rattle.feed_input.specs.declared.Place.{Place}
use Rattle.feed_input.specs.Place.{Answer, held, taken_in}
use Rattle.feed_input.specs.Answers.{Answers}
use Rattle.feed_input.specs.Answers.Answers.{unasked, came}
use Rattle.feed_input.proofs.Held.{in_quiet, in_came}
use Rattle.read_tape.specs.Tape.{Line, Tells, read_from}
use Rattle.read_tape.proofs.LookAhead.{block_short}
use Rattle.read_step.specs.declared.Standing.{Standing}
use Rattle.read_step.specs.declared.Stepped.{Stepped}
use Rattle.read_step.specs.Step.{opened, Step, step_of, Steps}
use Rattle.read_step.specs.Session.{Session, next, last, final}
use Rattle.read_step.proofs.How.{Sound, How, fails, halts, moves, how}
use Rattle.read_step.proofs.Links as link
use Rattle.read_step.proofs.Session.{session_whole, start_sound}
use Rattle.read_step.proofs.Turns.{extra_least, cost, link_pays}

-- ---- every step there is

module _ (line : Line) (most : ℕ) (tells : Tells line most) (s : Standing) (z : Answer) (block lines : List ℕ) where
  abbrev made : Step
  made = step_of line most s z block (length lines)

  fits_by : (p : Place) (x : Step) → How line most p s.at block (length lines) x → length x.text ≤ length lines
  fits_by p x (fails f) = omega arith
  fits_by p x (halts f l) = block_short line most tells (length lines) (held p block) s.at p.ended
  fits_by p x (moves f l) = block_short line most tells (length lines) (held p block) s.at p.ended

  fits : length made.text ≤ length lines
  unfolding step_of
  fits = let p = taken_in s.place z (length block) in fits_by p _ (how line most p s.at block (length lines))

  abbrev pub stepped : Stepped
  stepped = record { standing = made.standing; count = length made.text; over = made.over }

  pub steps : Steps line most s z block lines made.block (put made.text lines) stepped
  steps = record { leads = record { standing_is = refl; over_is = refl; block_is = refl; text_is = record { tape = refl; count_is = refl; within = fits } } }

-- ---- a read of at most one byte

record One (s : Standing) (block input : List ℕ) : Type 0 where
  bytes : List ℕ
  rest : List ℕ
  joined : bytes ++ rest ≡ input
  answer : Answer
  block' : List ℕ
  answers : Answers s.place block bytes answer block'
  unfailed : (taken_in s.place answer (length block')).failed ≡ false
  alone : (taken_in s.place answer (length block')).ended ≡ true → rest ≡ []

module _ (s : Standing) (block : List ℕ) (g : Sound s.place (length block)) where
  -- none is asked for
  none_read : (input : List ℕ) → s.place.asks ≡ false → (s.place.ended ≡ true → input ≡ []) → One s block input
  none_read input q e =
      let is = in_quiet s.place (length block) g.within (Ok 0) q in
      record {
        bytes = [];
        rest = input;
        joined = refl;
        answer = Ok 0;
        block' = block;
        answers = unasked (Ok 0) q;
        unfailed = ap (λ p. p.failed) is ∙ g.unfailed;
        alone = λ h. e (sym (ap (λ p. p.ended) is) ∙ h);
      }

  module _ (q : s.place.asks ≡ true) where
    -- the input is at its end
    end_read : One s block []
    end_read =
        let is = in_came s.place (length block) g.within 0 q (omega (arith, g.within.to_end)) in
        record {
          bytes = [];
          rest = [];
          joined = refl;
          answer = Ok 0;
          block' = block;
          answers = came {bytes = []} q (record { size = refl; kept = refl }) (omega (arith, g.within.to_end)) refl;
          unfailed = ap (λ p. p.failed) is;
          alone = λ h. refl;
        }

    -- a byte comes
    module _ (c : ℕ) (input : List ℕ) (room : s.place.have < length block) where
      abbrev have : ℕ
      have = s.place.have

      abbrev after : List ℕ
      after = take have block ++ (c ∷ drop (have + 1) block)

      size : length after ≡ length block
      size = omega (arith, length-append (take have block) (c ∷ drop (have + 1) block), length-take-le have block (omega arith), length-drop (have + 1) block)

      byte_read : One s block (c ∷ input)
      byte_read =
          let t = length-take-le have block (omega arith) in
          let is : taken_in s.place (Ok 1) (length after) ≡ record { at = s.place.at; have = have + 1; asks = false; ended = false; failed = false } = ap (taken_in s.place (Ok 1)) size ∙ in_came s.place (length block) g.within 1 q (omega arith) in
          record {
            bytes = c ∷ [];
            rest = input;
            joined = refl;
            answer = Ok 1;
            block' = after;
            answers = came {bytes = c ∷ []} q (record { size = size; kept = take_at (take have block) (c ∷ drop (have + 1) block) have t }) (omega arith) (ap (take 1) (drop_at (take have block) (c ∷ drop (have + 1) block) have t));
            unfailed = ap (λ p. p.failed) is;
            alone = λ h. absurd (false_true (sym (ap (λ p. p.ended) is) ∙ h));
          }

  one_read : (input : List ℕ) → (s.place.asks ≡ true → s.place.have < length block) → (s.place.ended ≡ true → input ≡ []) → One s block input
  one_read input room e = go s.place.asks refl input e
    where
      go : (a : Bool) → s.place.asks ≡ a → (i : List ℕ) → (s.place.ended ≡ true → i ≡ []) → One s block i
      go false q i h = none_read i q h
      go true q [] h = end_read q
      go true q (c ∷ i) h = byte_read q c i (room q)

-- ---- a session

-- what it reads of an input, and what it leaves: none where it comes to the input's end
pub record Has (line : Line) (most : ℕ) (s : Standing) (block input : List ℕ) : Type 0 where
  pub front : List ℕ
  pub rest : List ℕ
  pub output : List ℕ
  pub joined : front ++ rest ≡ input
  pub session : Session line most s block front true output
  pub alone : (final session).place.ended ≡ true → rest ≡ []

has_whole : {line : Line} {most : ℕ} {s : Standing} {block front rest output input : List ℕ} (whole : Bool) → whole ≡ true → front ++ rest ≡ input → (x : Session line most s block front whole output) → ((final x).place.ended ≡ true → rest ≡ []) → Has line most s block input
has_whole true e j x a = record { front = _; rest = _; output = _; joined = j; session = x; alone = a }
has_whole false e j x a = absurd (false_true e)

module _ (line : Line) (most : ℕ) (tells : Tells line most) (lines : List ℕ) (wide : most ≤ length lines) where
  -- a session from everywhere that is worth at most k turns
  abbrev From : ℕ → Type 0
  From k = (s : Standing) (block input : List ℕ) → Sound s.place (length block) → longest_print ≤ length block → (s.place.asks ≡ true → s.place.have < length block) → (s.place.ended ≡ true → input ≡ []) → cost s block input ≤ k → Has line most s block input

  module _ (k : ℕ) (ih : From k) (s : Standing) (block input : List ℕ) (g : Sound s.place (length block)) (b : longest_print ≤ length block) (o : One s block input) (l : cost s block input ≤ suc k) where
    abbrev made_block : List ℕ
    made_block = (made line most tells s o.answer o.block' lines).block

    abbrev r : Stepped
    r = stepped line most tells s o.answer o.block' lines

    abbrev st : Steps line most s o.answer o.block' lines made_block (put (made line most tells s o.answer o.block' lines).text lines) r
    st = steps line most tells s o.answer o.block' lines

    has_last : r.over ≡ true → Has line most s block input
    unfolding final
    has_last q =
        let w = link.ends g o.answers st q in
        has_whole (not r.standing.place.failed) (ap (λ p. not p.failed) w.place_is ∙ ap not o.unfailed) o.joined (last wide o.answers st q) (λ e. o.alone (sym (ap (λ p. p.ended) w.place_is) ∙ e))

    has_joined : r.over ≡ false → Has line most r.standing made_block o.rest → Has line most s block input
    unfolding final
    has_joined q h = has_whole true refl (append_assoc o.bytes h.front h.rest ∙ (ap (λ i. o.bytes ++ i) h.joined ∙ o.joined)) (next wide o.answers st q h.session) h.alone

    has_next : r.over ≡ false → Has line most s block input
    has_next q =
        let w = link.goes g o.answers st q in
        let a = link.after g o.answers st in
        let c = link_pays g o.answers st q o.rest in
        has_joined q (ih r.standing made_block o.rest w.sound (omega (arith, w.size, a.size)) (w.room b wide) (λ e. o.alone (sym w.ended_is ∙ e)) (omega (arith, c, ap (cost s block) o.joined, l)))

    has_one : Has line most s block input
    has_one = go r.over refl
      where
        go : (f : Bool) → r.over ≡ f → Has line most s block input
        go true q = has_last q
        go false q = has_next q

  has : (k : ℕ) → From k
  has zero s block input g b a e l = absurd (omega (arith, extra_least s.place.asks s.place.ended, l))
  has (suc k) s block input g b a e l = has_one k (has k) s block input g b (one_read s block g input a e) l

  -- EVERY INPUT HAS A SESSION: of a block and lines that are long enough, it reads the input, or a front of it where it stops before
  pub session_exists : (block input : List ℕ) → longest_print ≤ length block → Has line most opened block input
  session_exists block input b = has (cost opened block input) opened block input (start_sound (length block)) b (λ a. omega arith) (λ e. absurd (false_true e)) (omega arith)

-- and writes its lines
pub has_output : {line : Line} {most : ℕ} → Tells line most → {block input : List ℕ} (h : Has line most opened block input) → h.output ≡ read_from line input 0
has_output {line = line} tells h = sym (session_whole tells h.session h.rest h.alone) ∙ ap (λ l. read_from line l 0) h.joined

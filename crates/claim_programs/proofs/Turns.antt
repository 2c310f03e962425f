-- A session is short: each turn uses a byte, reads one, or comes nearer to the end. Assumes nothing.
use Prim.Native.Nat.{ℕ, suc, ◌+◌, ◌-◌, ◌*◌, ◌≤◌, ◌<◌}
use native.Mathlib.Omega.{arith}
use mathlib.Core.Path.{◌≡◌, refl, sym, ap, ◌∙◌}
use mathlib.Core.Bool.{Bool, true, false}
use mathlib.Core.List.{List, [], ◌∷◌, ◌++◌}
use lib.Dec.{ltb}
use lib.ListN.{length, take, drop, length-append, length-drop}
use borrow.Author.Tests.{le-leb}
use Rattle.text.specs.Pick.{pick}
use Rattle.text.proofs.Booleans.{false_true}
use Rattle.rules.specs.declared.Settings.{Settings}
use Rattle.feed_blocks.specs.Lines.{line_length, cut}
use Rattle.feed_gather.specs.Gather.{last_line, Program, Progress, started, line_taken, room_left, lines_taken, block_taken}
use Rattle.feed_gather.proofs.Blocks.{taken_on, taken_off, taken_none}
use Rattle.feed_gather.proofs.Within.{ended_line, line_at}
use Rattle.feed_input.specs.Place.{Within, held}
use Rattle.feed_input.specs.declared.Place.{Place}
use Rattle.feed_input.proofs.Held.{After}
use Rattle.feed_step.specs.Step.{opening, taken_by, used_by, passing_by, reads_by, is_over}
use Rattle.feed_step.specs.Session.{Turn, Session, next, last, turns}
use Rattle.feed_step.specs.declared.Standing.{Standing}
use Rattle.feed_step.specs.declared.Stepped.{Stepped}
use Rattle.feed_step.specs.declared.Way.{Way}
use Rattle.feed_step.proofs.How as how
use Rattle.feed_step.proofs.How.{How}
use Rattle.feed_step.proofs.Steps.{stands_within, same_size, uses}
use Rattle.claim_programs.proofs.Session as session

-- what counts: bytes held and to come, a line that is passed over, a step before a read, the input's end
abbrev pub one : Bool → ℕ
one true = 1
one false = 0

abbrev pub none : Bool → ℕ
none true = 0
none false = 1

abbrev pub cost : ℕ → ℕ → Bool → Bool → Bool → ℕ
cost h i passing asks ended = 2 * h + 3 * i + one passing + none asks + 2 * none ended

one_most : (b : Bool) → one b ≤ 1
one_most true = omega arith
one_most false = omega arith

-- where a read comes next, the input is not at its end
reads_open : {passing : Bool} {p : Place} {number size : ℕ} {u : List ℕ} {w : Way} → How passing p number size u w → reads_by w ≡ true → p.ended ≡ false
unfolding reads_by
reads_open (how.fails a) r = absurd (false_true r)
reads_open (how.past a b) r = absurd (false_true r)
reads_open (how.done a b c d e) r = absurd (false_true r)
reads_open (how.long_ends a b c d) r = absurd (false_true r)
reads_open (how.long_last a b c d e) r = absurd (false_true r)
reads_open (how.long_on a b c d e) r = e
reads_open (how.lines a b c d) r = absurd (false_true r)
reads_open (how.last a b c d e f) r = absurd (false_true r)
reads_open (how.fills a b c d e f) r = e
reads_open (how.waits a b c d e f) r = e

-- lines that are taken go on
later : (g : Program) (room told : ℕ) (ls : List (List ℕ)) (p : Progress) → p.at ≤ (lines_taken g room told ls p).at
later g room told [] p = rw taken_none (omega arith)
later g room told (l ∷ ls) p = go (room_left g room told (length p.out) (length p.err) p.number) refl (later g room told ls (line_taken g room l p))
  where
    go : (b : Bool) → room_left g room told (length p.out) (length p.err) p.number ≡ b → (line_taken g room l p).at ≤ (lines_taken g room told ls (line_taken g room l p)).at → p.at ≤ (lines_taken g room told (l ∷ ls) p).at
    go true e on = rw (taken_on g room told l ls p e) (omega (arith, on, line_at g room l p))
    go false e on = rw (taken_off g room told l ls p e) (omega arith)

-- where a line feed is held, a line is taken
takes_some : (g : Program) (room told : ℕ) (u : List ℕ) (st : Settings) (table names : List ℕ) (number : ℕ) → room_left g room told 0 0 number ≡ true → line_length u < length u → 1 ≤ (block_taken g room told u (started st table names number)).at
unfolding block_taken
takes_some g room told u st table names number r h =
    let l : List ℕ = take (line_length u) u in
    let ls : List (List ℕ) = (cut (drop (suc (line_length u)) u)).ended in
    let s : Progress = started st table names number in
    rw (ended_line u h, taken_on g room told l ls s r) (omega (arith, later g room told ls (line_taken g room l s), line_at g room l s))

-- ---- a step pays: `n` bytes are used; it goes on at once, or asks for a read

-- a step without a read before it comes nearer to the end; one behind a read does not go back
pub record Pays (u n : ℕ) (passing passing' reads : Bool) : Type 0 where
  pub behind_read : 2 * (u - n) + one passing' + none reads ≤ 2 * u + one passing
  pub at_once : 2 * (u - n) + one passing' + none reads < 2 * u + one passing + 1

room_yes : (g : Program) (room told number : ℕ) → g.out_most ≤ room → g.err_most ≤ told → number ≤ last_line → room_left g room told 0 0 number ≡ true
unfolding room_left
room_yes g room told number a b c =
    let x : g.out_most ≤ room - 0 = omega arith in
    let y : g.err_most ≤ told - 0 = omega arith in
    rw (le-leb g.out_most (room - 0) x, le-leb g.err_most (told - 0) y, le-leb number last_line c)

still : (u : List ℕ) (b : Bool) → Pays (length u) (length u) true (pick b true true) true
unfolding pick
still u true = record { behind_read = omega arith; at_once = omega arith }
still u false = record { behind_read = omega arith; at_once = omega arith }

filled : (u passing : Bool) (n : ℕ) → 1 ≤ n → Pays n n passing (pick u true passing) true
unfolding pick
filled true passing n h = record { behind_read = omega arith; at_once = omega arith }
filled false passing n h = record { behind_read = omega arith; at_once = omega arith }

module _ (g : Program) (room told : ℕ) (wide : g.out_most ≤ room) (deep : g.err_most ≤ told) (passing : Bool) (p : Place) (number size : ℕ) (big : 1 ≤ size) (u : List ℕ) (st : Settings) (table names : List ℕ) where
  abbrev taken : Way → ℕ
  taken w = (taken_by g room told w u (started st table names number)).at

  pays : {w : Way} → How passing p number size u w → is_over w ≡ false → used_by w (taken w) ≤ length u → Pays (length u) (used_by w (taken w)) passing (passing_by w passing) (reads_by w)
  unfolding is_over taken_by used_by passing_by reads_by pick
  pays (how.fails a) o l = absurd (false_true (sym o))
  pays (how.past a b) o l = absurd (false_true (sym o))
  pays (how.done a b c d e) o l = absurd (false_true (sym o))
  pays (how.long_ends a b c d) o l = record { behind_read = omega arith; at_once = omega arith }
  pays (how.long_last a b c d e) o l = let z : one passing ≡ 1 = ap one c in record { behind_read = omega (arith, z); at_once = omega (arith, z) }
  pays (how.long_on a b c d e) o l = rw c (still u (ltb 0 (length u)))
  pays (how.lines a b c d) o l = let s = takes_some g room told u st table names number (room_yes g room told number wide deep b) d in record { behind_read = omega (arith, s, l); at_once = omega (arith, s, l) }
  pays (how.last a b c d e f) o l = record { behind_read = omega arith; at_once = omega arith }
  pays (how.fills a b c d e f) o l = filled (ltb 0 (length u)) passing (length u) (omega arith)
  pays (how.waits a b c d e f) o l = record { behind_read = omega arith; at_once = omega arith }

-- ---- a turn pays

pub record Open (s : Standing) (block : List ℕ) : Type 0 where
  pub within : Within s.place (length block)
  pub big : 1 ≤ length block
  pub goes_on : s.place.asks ≡ true → s.place.ended ≡ false

abbrev pub left : Standing → List ℕ → List ℕ → ℕ
left s block input = cost (length (held s.place block)) (length input) s.passing s.place.asks s.place.ended

module _ {g : Program} {s : Standing} {table names block bytes out err table' names' block' : List ℕ} {r : Stepped} (t : Turn g s table names block bytes out err table' names' block' r) (y : Open s block) (going : r.over ≡ false) where
  abbrev p : Place
  p = session.p t

  abbrev w : Way
  w = session.w t

  after : After s.place block bytes t.read p
  after = rw (← session.same_place t y.within) (session.after t y.within)

  paid : Pays (length (session.u t)) (used_by w (session.q t).at) s.passing (passing_by w s.passing) (reads_by w)
  paid =
      pays g (length t.lent_out) (length t.lent_err) t.out_room t.err_room s.passing p s.number (length t.read) (omega (arith, after.size, y.big)) (session.u t) s.settings table names (session.ways t) (session.over_way t ∙ going) (uses t.steps)

  -- what is held then, and before
  held_now : length (held r.standing.place block') ≡ length (session.u t) - used_by w (session.q t).at
  held_now = ap length (session.next_held t) ∙ length-drop (used_by w (session.q t).at) (session.u t)

  held_then : length (session.u t) ≡ length (held s.place block) + length bytes
  held_then = ap length after.held_is ∙ length-append (held s.place block) bytes

  passing_now : one r.standing.passing ≡ one (passing_by w s.passing)
  passing_now = ap (λ (x : Standing). one x.passing) t.steps.standing_is

  asks_now : none r.standing.place.asks ≡ none (reads_by w)
  asks_now = ap none (session.next_asks t)

  ended_now : none r.standing.place.ended ≡ none p.ended
  ended_now = ap none (session.next_ended t)

  pub open_next : Open r.standing block'
  open_next =
      record {
        within = stands_within t.steps;
        big = omega (arith, same_size t.steps, after.size, y.big);
        goes_on = λ a. session.next_ended t ∙ reads_open (session.ways t) (sym (session.next_asks t) ∙ a);
      }

  module _ (input : List ℕ) where
    -- no read came before
    quiet_less : s.place.asks ≡ false → left r.standing block' input < left s block (bytes ++ input)
    quiet_less a =
        let none_came : bytes ≡ [] = session.quiet_none t.answers a in
        let b : length bytes ≡ 0 = ap length none_came in
        let e : none p.ended ≡ none s.place.ended = ap none (after.quiet a).0 in
        let k : none s.place.asks ≡ 1 = ap none a in
        omega (arith, held_now, held_then, passing_now, asks_now, ended_now, paid.at_once, length-append bytes input, b, e, k)

    -- a read came before: it brought a byte, or it was the last
    read_less : s.place.asks ≡ true → left r.standing block' input < left s block (bytes ++ input)
    read_less a = go p.ended refl
      where
        open_then : none s.place.ended ≡ 1
        open_then = ap none (y.goes_on a)

        k : none s.place.asks ≡ 0
        k = ap none a

        go : (b : Bool) → p.ended ≡ b → left r.standing block' input < left s block (bytes ++ input)
        go true e = omega (arith, held_now, held_then, passing_now, asks_now, ended_now ∙ ap none e, paid.behind_read, length-append bytes input, ap length (after.none_left e a), open_then, k)
        go false e = omega (arith, held_now, held_then, passing_now, asks_now, ended_now ∙ ap none e, paid.behind_read, length-append bytes input, after.came_some a e, open_then, k)

    pub turn_less : left r.standing block' input < left s block (bytes ++ input)
    turn_less = go s.place.asks refl
      where
        go : (b : Bool) → s.place.asks ≡ b → left r.standing block' input < left s block (bytes ++ input)
        go true e = read_less e
        go false e = quiet_less e

turns_left : {g : Program} {s : Standing} {table names block input out err : List ℕ} {whole : Bool} (x : Session g s table names block input whole out err) → Open s block → turns x ≤ left s block input + 1
unfolding turns
turns_left (next {input = i} t o x) y = omega (arith, turns_left x (open_next t y o), turn_less t y o i)
turns_left (last t o) y = omega arith

-- A SESSION over an input of n bytes has at most 3 n + 3 turns
pub session_turns : {g : Program} {table names block input out err : List ℕ} {whole : Bool} → 1 ≤ length block → (x : Session g opening table names block input whole out err) → turns x ≤ 3 * length input + 3
unfolding opening
session_turns b x = omega (arith, turns_left x (record { within = record { from_to = omega arith; to_end = omega arith }; big = b; goes_on = λ a. refl }))

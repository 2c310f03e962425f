-- WHAT IS PROVED OF A BLOCK WITH ENOUGH LOOK-AHEAD. A block is the front of the rest of a tape; whatever follows it, the lines that are written of it are the first lines of that rest, and the lines of what is then left, at its place, are the others; after a refusal and above the last place there are no others. A print is read in the block only where `longest_print` bytes of it are left, or where nothing follows the block: so no line depends on where a block ends. A call that may read at all reads a print or stops. Assumes nothing.
use Prim.Native.Nat.{ℕ, zero, suc, ◌+◌, ◌-◌, ◌≤◌, ◌<◌}
use native.Mathlib.Nat.{add_assoc, add-zero}
use native.Mathlib.Omega.{arith}
use mathlib.Core.Path.{◌≡◌, refl, sym, ap, ◌∙◌}
use mathlib.Core.Bool.{Bool, true, false, ◌&&◌, ◌||◌, true≢false}
use mathlib.Core.List.{List, [], ◌∷◌, ◌++◌, append_assoc, append-nil}
use lib.Dec.{leb, eqb}
use lib.ListN.{length, drop, length-append, length-drop}
use lib.Seq.{drop-drop, drop-append-le}
use borrow.Author.Tests.{leb-true, leb-false, le-leb, lt-leb, eqb-true, eqb-false}
use Rattle.text.specs.Pick.{pick}
use Rattle.text.proofs.Texts.{and_left, and_right}
use Rattle.text.proofs.Booleans.{and_false}
use Rattle.rules.specs.Sizes.{longest_print}
use Rattle.reader.specs.Read.{print_at, read_at}
use Rattle.reader.specs.Told.{length_of}
use Rattle.claim_longest.proofs.Ahead.{ahead}
use Rattle.read_tape.specs.Tape.{Line, Tells, prints_from, read_from}
use Rattle.read_tape.specs.Block.{Progress, started, print_read, may_read, block_from, block_read}
use Rattle.read_tape.proofs.Blocks.{from_zero, from_on, from_off, may_left, may_room, read_within, at_further, on_some, on_place}

-- ---- the equations of `prints_from`

-- a line is due
abbrev due : List ℕ → ℕ → Bool
due s place = leb 1 (length s) && leb place 9999999999

abbrev count : List ℕ → ℕ
count s = length_of (print_at s)

module _ (line : Line) (s : List ℕ) (place : ℕ) where
  prints_none : (k : ℕ) → due s place ≡ false → prints_from line k s place ≡ []
  unfolding prints_from
  prints_none zero h = refl
  prints_none (suc k) h = rw (h, prints_from)

  prints_refused : (k : ℕ) → due s place ≡ true → eqb (count s) 0 ≡ true → prints_from line (suc k) s place ≡ line place s ++ []
  unfolding prints_from
  prints_refused k h z = rw (h, z, prints_from)

  prints_on : (k : ℕ) → due s place ≡ true → eqb (count s) 0 ≡ false → prints_from line (suc k) s place ≡ line place s ++ prints_from line k (drop (count s) s) (place + count s)
  unfolding prints_from
  prints_on k h z = rw (h, z, prints_from)

no_bytes : (s : List ℕ) (place : ℕ) → length s ≤ 0 → due s place ≡ false
no_bytes s place h = rw (lt-leb 1 (length s) (omega arith))

-- ---- steps that are enough are enough

module _ (line : Line) (j k : ℕ) (ih : (s : List ℕ) (place : ℕ) → length s ≤ j → length s ≤ k → prints_from line j s place ≡ prints_from line k s place) where
  enough_more : (s : List ℕ) (place : ℕ) → length s ≤ suc j → length s ≤ suc k → (b : Bool) → due s place ≡ b → (c : Bool) → eqb (count s) 0 ≡ c → prints_from line (suc j) s place ≡ prints_from line (suc k) s place
  enough_more s place h l false e c z = prints_none line s place (suc j) e ∙ sym (prints_none line s place (suc k) e)
  enough_more s place h l true e true z = prints_refused line s place j e z ∙ sym (prints_refused line s place k e z)
  enough_more s place h l true e false z =
      let n : (count s ≡ 0 → ⊥) = eqb-false (count s) 0 z in
      let d = length-drop (count s) s in
      prints_on line s place j e z ∙ (ap (λ r. line place s ++ r) (ih (drop (count s) s) (place + count s) (omega (arith, n, d)) (omega (arith, n, d))) ∙ sym (prints_on line s place k e z))

enough : (line : Line) (j k : ℕ) (s : List ℕ) (place : ℕ) → length s ≤ j → length s ≤ k → prints_from line j s place ≡ prints_from line k s place
enough line zero k s place h l = prints_none line s place zero (no_bytes s place h) ∙ sym (prints_none line s place k (no_bytes s place h))
enough line (suc j) zero s place h l = prints_none line s place (suc j) (no_bytes s place l) ∙ sym (prints_none line s place zero (no_bytes s place l))
enough line (suc j) (suc k) s place h l = enough_more line j k (enough line j k) s place h l (due s place) refl (eqb (count s) 0) refl

-- ---- the lines of the rest of a tape

pub read_none : (line : Line) (s : List ℕ) (place : ℕ) → due s place ≡ false → read_from line s place ≡ []
unfolding read_from
read_none line s place h = prints_none line s place (length s) h

-- behind a print of n bytes
onward : (line : Line) (s : List ℕ) (place n : ℕ) → 1 ≤ n → (b : Bool) → leb (place + n) 9999999999 ≡ b → read_from line (drop n s) (place + n) ≡ pick (leb 1 n && b) (read_from line (drop n s) (place + n)) []
unfolding pick
onward line s place n h true e = rw (le-leb 1 n h)
onward line s place n h false e = rw (le-leb 1 n h) (read_none line (drop n s) (place + n) (rw e (and_false (leb 1 (length (drop n s))))))

line_more : (line : Line) (s : List ℕ) (place k : ℕ) → length s ≡ suc k → due s place ≡ true → (c : Bool) → eqb (count s) 0 ≡ c → prints_from line (suc k) s place ≡ line place s ++ pick (leb 1 (count s) && leb (place + count s) 9999999999) (read_from line (drop (count s) s) (place + count s)) []
unfolding read_from pick
line_more line s place k l e true z = prints_refused line s place k e z ∙ rw (lt-leb 1 (count s) (omega (arith, eqb-true (count s) 0 z)))
line_more line s place k l e false z =
    let n : (count s ≡ 0 → ⊥) = eqb-false (count s) 0 z in
    let d = length-drop (count s) s in
    prints_on line s place k e z
    ∙ ap (λ r. line place s ++ r) (enough line k (length (drop (count s) s)) (drop (count s) s) (place + count s) (omega (arith, n, d, l)) (omega arith)
    ∙ onward line s place (count s) (omega (arith, n)) (leb (place + count s) 9999999999) refl)

-- where a line is due: the line of the print there, and the lines behind it
pub read_line : (line : Line) (s : List ℕ) (place : ℕ) → 1 ≤ length s → place ≤ 9999999999 → read_from line s place ≡ line place s ++ pick (leb 1 (length_of (print_at s)) && leb (place + length_of (print_at s)) 9999999999) (read_from line (drop (length_of (print_at s)) s) (place + length_of (print_at s))) []
unfolding read_from
read_line line [] place h l = absurd (omega (arith, h))
read_line line (c ∷ s) place h l = line_more line (c ∷ s) place (length s) refl (rw (le-leb 1 (length (c ∷ s)) h, le-leb place 9999999999 l)) (eqb (count (c ∷ s)) 0) refl

-- ---- a block, and what follows it

module _ (line : Line) (most : ℕ) (tells : Tells line most) (block t : List ℕ) (place : ℕ) (ended : Bool) (alone : ended ≡ true → t ≡ []) where
  -- the lines so far, and those of what is left
  abbrev told : Progress → List ℕ
  told p = p.text ++ pick p.going (read_from line (drop p.at (block ++ t)) (place + p.at)) []

  -- the print that is read in the block is the one that stands on the tape
  print_same : (at : ℕ) → (b : Bool) → ended ≡ b → (b || leb longest_print (length block - at)) ≡ true → length_of (print_at (drop at block ++ t)) ≡ length_of (print_at (drop at block))
  print_same at true e h = rw (alone e, append-nil)
  print_same at false e h = ahead (drop at block) t (omega (arith, leb-true longest_print (length block - at) h, length-drop at block))

  told_same : (here at : ℕ) → (b : Bool) → ended ≡ b → (b || leb longest_print (length block - at)) ≡ true → line here (drop at block ++ t) ≡ line here (drop at block)
  told_same here at true e h = rw (alone e, append-nil)
  told_same here at false e h = tells.same here (drop at block) t (omega (arith, leb-true longest_print (length block - at) h, length-drop at block))

  module _ (p : Progress) (room : ℕ) (within : p.at ≤ length block) (going : p.going ≡ true) (placed : place + p.at ≤ 9999999999) (may : may_read most (length block - p.at) ended room ≡ true) where
    enough_left : (ended || leb longest_print (length block - p.at)) ≡ true
    unfolding may_read
    enough_left = and_right (leb most room) _ (and_right (leb 1 (length block - p.at)) _ may)

    same : length_of (print_at (drop p.at (block ++ t))) ≡ length_of (read_at block p.at)
    unfolding read_at
    same = rw (drop-append-le p.at block t within) (print_same p.at ended refl enough_left)

    line_same : line (place + p.at) (drop p.at (block ++ t)) ≡ line (place + p.at) (drop p.at block)
    line_same = rw (drop-append-le p.at block t within) (told_same (place + p.at) p.at ended refl enough_left)

    some_left : 1 ≤ length (drop p.at (block ++ t))
    some_left = omega (arith, length-drop p.at (block ++ t), length-append block t, may_left most (length block - p.at) room ended may)

    -- one print more
    one_more : told (print_read line block place p) ≡ told p
    unfolding print_read pick
    one_more = rw (going, read_line line (drop p.at (block ++ t)) (place + p.at) some_left placed, line_same, same, drop-drop, append_assoc, add_assoc)

  module _ (room k : ℕ) (ih : (p : Progress) → p.at ≤ length block → (p.going ≡ true → place + p.at ≤ 9999999999) → told (block_from line most k room block place ended p) ≡ told p) where
    all_more : (p : Progress) → p.at ≤ length block → (p.going ≡ true → place + p.at ≤ 9999999999) → (b : Bool) → (p.going && may_read most (length block - p.at) ended (room - length p.text)) ≡ b → told (block_from line most (suc k) room block place ended p) ≡ told p
    all_more p h l false e = ap told (from_off line most room block place ended p (suc k) e)
    all_more p h l true e =
        let g = and_left p.going _ e in
        ap told (from_on line most room block place ended p k e)
        ∙ (ih (print_read line block place p) (read_within line block place p h) (on_place line block place p)
        ∙ one_more p (room - length p.text) h g (l g) (and_right p.going _ e))

  all_read : (room k : ℕ) (p : Progress) → p.at ≤ length block → (p.going ≡ true → place + p.at ≤ 9999999999) → told (block_from line most k room block place ended p) ≡ told p
  all_read room zero p h l = ap told (from_zero line most room block place ended p)
  all_read room (suc k) p h l = all_more room k (all_read room k) p h l (p.going && may_read most (length block - p.at) ended (room - length p.text)) refl

  from_start : (b : Bool) → leb place 9999999999 ≡ b → pick b (read_from line (block ++ t) (place + 0)) [] ≡ read_from line (block ++ t) place
  unfolding pick
  from_start true e = ap (read_from line (block ++ t)) (add-zero place)
  from_start false e = sym (read_none line (block ++ t) place (rw e (and_false (leb 1 (length (block ++ t))))))

  -- THE LINES OF THE BLOCK, THEN THOSE OF WHAT IS LEFT
  pub block_reads : (room : ℕ) → let b = block_read line most room block place ended in read_from line (block ++ t) place ≡ b.text ++ pick b.going (read_from line (drop b.at (block ++ t)) (place + b.at)) []
  unfolding block_read
  block_reads room =
      sym (all_read room (length block) (started place) (omega arith) (λ g. omega (arith, leb-true place 9999999999 g))
      ∙ from_start (leb place 9999999999) refl)

-- ---- where a block's reading ends

-- where there is room, only bytes are wanting
module _ (most left room : ℕ) (fits : most ≤ room) where
  -- the look-ahead
  pub may_not : may_read most left false room ≡ false → left < longest_print
  unfolding may_read
  may_not h = go (leb longest_print left) refl
    where
      go : (b : Bool) → leb longest_print left ≡ b → left < longest_print
      go true e = absurd (true≢false (sym (rw (le-leb 1 left (omega (arith, leb-true longest_print left e)), le-leb most room fits, e)) ∙ h))
      go false e = leb-false longest_print left e

  -- or any
  pub may_none : may_read most left true room ≡ false → left ≡ 0
  unfolding may_read
  may_none h = go (leb 1 left) refl
    where
      go : (b : Bool) → leb 1 left ≡ b → left ≡ 0
      go true e = absurd (true≢false (sym (rw (e, le-leb most room fits)) ∙ h))
      go false e = omega (arith, leb-false 1 left e)

module _ (line : Line) (most room : ℕ) (block : List ℕ) (place : ℕ) (ended : Bool) where
  -- what holds where the reading goes on from p
  record Ends (p q : Progress) : Type 0 where
    further : p.at ≤ q.at
    went : q.going ≡ true → p.going ≡ true
    within : p.at ≤ length block → q.at ≤ length block
    placed : (p.going ≡ true → place + p.at ≤ 9999999999) → q.going ≡ true → place + q.at ≤ 9999999999

  ends_here : (p q : Progress) → q ≡ p → Ends p q
  ends_here p q e = rw e (record { further = omega arith; went = λ g. g; within = λ h. h; placed = λ l g. l g })

  ends_on : (p q : Progress) → p.going ≡ true → Ends (print_read line block place p) q → Ends p q
  ends_on p q g e =
      record {
        further = omega (arith, e.further, at_further line block place p);
        went = λ h. g;
        within = λ h. e.within (read_within line block place p h);
        placed = λ l h. e.placed (on_place line block place p) h;
      }

  ends : (k : ℕ) (p : Progress) → Ends p (block_from line most k room block place ended p)
  ends zero p = ends_here p _ (from_zero line most room block place ended p)
  ends (suc k) p = go (p.going && may_read most (length block - p.at) ended (room - length p.text)) refl (ends k (print_read line block place p))
    where
      go : (b : Bool) → (p.going && may_read most (length block - p.at) ended (room - length p.text)) ≡ b → Ends (print_read line block place p) (block_from line most k room block place ended (print_read line block place p)) → Ends p (block_from line most (suc k) room block place ended p)
      go false e ih = ends_here p _ (from_off line most room block place ended p (suc k) e)
      go true e ih = rw (from_on line most room block place ended p k e) (ends_on p _ (and_left p.going _ e) ih)

  -- within the block
  pub block_within : (block_read line most room block place ended).at ≤ length block
  unfolding block_read
  block_within = (ends (length block) (started place)).within (omega arith)

  -- at a place that a line can tell, where it goes on
  pub block_placed : (block_read line most room block place ended).going ≡ true → place + (block_read line most room block place ended).at ≤ 9999999999
  unfolding block_read
  block_placed = (ends (length block) (started place)).placed (λ g. omega (arith, leb-true place 9999999999 g))

  moved : (k : ℕ) → length block ≡ k → may_read most (length block) ended room ≡ true → (block_from line most k room block place ended (started place)).going ≡ true → 1 ≤ (block_from line most k room block place ended (started place)).at
  moved zero e h g = absurd (omega (arith, e, may_left most (length block) room ended h))
  moved (suc k) e h g =
      let p = started place in
      let s : leb place 9999999999 ≡ true = (ends (suc k) p).went g in
      let l : length block - 0 ≡ length block = omega arith in
      let r : room - 0 ≡ room = omega arith in
      let f = from_on line most room block place ended p k (rw (s, l, r) h) in
      let n = ends k (print_read line block place p) in
      omega (arith, ap (λ q. q.at) f, n.further, on_some line block place p (n.went (ap (λ q. q.going) (sym f) ∙ g)))

  -- A CALL THAT MAY READ READS A PRINT, OR STOPS
  pub block_moves : may_read most (length block) ended room ≡ true → (block_read line most room block place ended).going ≡ true → 1 ≤ (block_read line most room block place ended).at
  unfolding block_read
  block_moves h g = moved (length block) refl h g

-- the lines of a block fit the room that is lent for them
module _ (line : Line) (most : ℕ) (tells : Tells line most) (room : ℕ) (block : List ℕ) (place : ℕ) (ended : Bool) where
  longer : (p : Progress) → place + p.at ≤ 9999999999 → may_read most (length block - p.at) ended (room - length p.text) ≡ true → length p.text ≤ room → length (print_read line block place p).text ≤ room
  unfolding print_read
  longer p l h f =
      omega (arith, length-append p.text (line (place + p.at) (drop p.at block)), tells.short (place + p.at) (drop p.at block) l, may_room most (length block - p.at) (room - length p.text) ended h)

  fits_from : (k : ℕ) (p : Progress) → (p.going ≡ true → place + p.at ≤ 9999999999) → length p.text ≤ room → length (block_from line most k room block place ended p).text ≤ room
  fits_from zero p l f = rw (from_zero line most room block place ended p) f
  fits_from (suc k) p l f = go (p.going && may_read most (length block - p.at) ended (room - length p.text)) refl (fits_from k (print_read line block place p) (on_place line block place p))
    where
      go : (b : Bool) → (p.going && may_read most (length block - p.at) ended (room - length p.text)) ≡ b → (length (print_read line block place p).text ≤ room → length (block_from line most k room block place ended (print_read line block place p)).text ≤ room) → length (block_from line most (suc k) room block place ended p).text ≤ room
      go false e ih = rw (from_off line most room block place ended p (suc k) e) f
      go true e ih = rw (from_on line most room block place ended p k e) (ih (longer p (l (and_left p.going _ e)) (and_right p.going _ e) f))

  pub block_short : length (block_read line most room block place ended).text ≤ room
  unfolding block_read
  block_short = fits_from (length block) (started place) (λ g. omega (arith, leb-true place 9999999999 g)) (omega arith)

-- Laws of `put` and `Written`: how writers join, that there is room for the next one, and parts that may be left out. Assumes nothing.
use Prim.Native.Nat.{ℕ, zero, suc, ◌+◌, ◌-◌, ◌≤◌, ◌<◌}
use native.Mathlib.Nat.{le_of_suc-le-suc, not-suc-le-zero}
use native.Mathlib.Omega.{arith}
use mathlib.Core.Path.{◌≡◌, refl, sym, ap, ◌∙◌}
use mathlib.Core.Bool.{Bool, true, false}
use mathlib.Core.List.{List, [], ◌∷◌, ◌++◌, append_assoc, append-nil}
use lib.ListN.{length, take, drop, get_or, set, length-append, length-drop, length-take, drop_of_length-le}
use lib.Seq.{take_at, drop_at, take_all, drop-drop}
use borrow.Author.Tests.{lt-ltb, le-ltb, le-leb, lt-leb, eq-eqb, ne_eqb}
use Rattle.text.specs.Pick.{pick, opt}
use Rattle.text.specs.Put.{put, Written}

-- a turn's store takes the copy of i bytes to the copy of one more
pub store : (src dst : List ℕ) (i : ℕ) → i < length src → i < length dst → set (take i src ++ drop i dst) i (get_or src i 0) ≡ take (suc i) src ++ drop (suc i) dst
store [] dst i h k = absurd (not-suc-le-zero h)
store (x ∷ xs) [] i h k = absurd (not-suc-le-zero k)
store (x ∷ xs) (y ∷ ys) zero h k = refl
store (x ∷ xs) (y ∷ ys) (suc i) h k = ap (λ (l : List ℕ). x ∷ l) (store xs ys i (le_of_suc-le-suc h) (le_of_suc-le-suc k))

-- a text that fits leaves the length as it was
pub length_put : (t b : List ℕ) → length t ≤ length b → length (put t b) ≡ length b
unfolding put
length_put t b h = simp (length-append, length-drop) (omega arith)

-- the second writer was lent the rest after the first: the two texts stand one after the other
pub put_put : (t u b : List ℕ) → t ++ put u (drop (length t) b) ≡ put (t ++ u) b
unfolding put
put_put t u b = simp (drop-drop, length-append, append_assoc)

-- `at` bytes are written; the part from `at` on is lent to the next writer, and comes back
pub then : {t u b xs ys : List ℕ} {at n : ℕ} → Written t b xs at → Written u (take (length xs - at) (drop at xs)) ys n → Written (t ++ u) b (take at xs ++ (ys ++ drop (length xs - at) (drop at xs))) (at + n)
unfolding put
then {t} {u} {b} {xs} {ys} {at} {n} v w =
    let rest : List ℕ = drop (length t) b in
    let e : drop at xs ≡ rest = ap (drop at) v.tape ∙ drop_at t rest at (sym v.count_is) in
    let f : take at xs ≡ t = ap (take at) v.tape ∙ take_at t rest at (sym v.count_is) in
    let l : length rest ≤ length xs - at = omega (arith, sym (length-drop at xs), ap length e) in
    let every : take (length xs - at) (drop at xs) ≡ rest = ap (take (length xs - at)) e ∙ take_all _ rest l in
    let none : drop (length xs - at) (drop at xs) ≡ [] = ap (drop (length xs - at)) e ∙ drop_of_length-le rest l in
    let k : length xs ≡ length b = ap length v.tape ∙ simp (length-append, length-drop) (omega (arith, v.count_is, v.within)) in
    let y : ys ≡ put u rest = w.tape ∙ ap (put u) every in
    record {
      tape = simp (f, none, append-nil, y) (put_put t u b);
      count_is = simp (length-append, v.count_is, w.count_is);
      within = omega (arith, v.within, w.within, length-take (length xs - at) (drop at xs), length-drop at xs, k);
    }

-- there is room for the next writer, where there is for both texts
pub room : {t b xs : List ℕ} {at : ℕ} (u : List ℕ) → Written t b xs at → length (t ++ u) ≤ length b → length u ≤ length (take (length xs - at) (drop at xs))
unfolding put
room {t} {b} {xs} {at} u v h =
    let l : length t + length u ≤ length b = simp length-append at h in
    let k : length xs ≡ length b = ap length v.tape ∙ simp (length-append, length-drop) (omega arith) in
    simp (length-take, length-drop) (omega (arith, v.count_is))

-- as `then`, where the whole text is named otherwise
pub joined : {s t u b xs ys : List ℕ} {at n : ℕ} → Written t b xs at → Written u (take (length xs - at) (drop at xs)) ys n → s ≡ t ++ u → Written s b (take at xs ++ (ys ++ drop (length xs - at) (drop at xs))) (at + n)
joined {s} {t} {u} {b} {xs} {ys} {at} {n} v w e = rw e (then v w)

-- a text under another name
pub named : {s t b a : List ℕ} {n : ℕ} → s ≡ t → Written t b a n → Written s b a n
named e w = rw e w

pub fits : (s t : List ℕ) (m : ℕ) → length s ≤ m → s ≡ t → length t ≤ m
fits s t m h e = rw e at h

pub length_named : (s t : List ℕ) (r : ℕ) → s ≡ t → r ≡ length t → r ≡ length s
length_named s t r e h = rw e h

-- the length of a text of two parts
pub length_joined : (t u : List ℕ) (r q : ℕ) → r ≡ length t → q ≡ length u → r + q ≡ length (t ++ u)
length_joined t u r q h k = rw (h, k) (sym (length-append t u))

-- a text that goes on fits where the whole does
pub shorter : (t u : List ℕ) (m : ℕ) → length (t ++ u) ≤ m → length t ≤ m
shorter t u m h = omega (arith, length-append t u, h)

pub ruleset rooms = (room, then, shorter)

-- ---- nothing, and a part that may be left out

pub written_nothing : (b : List ℕ) → Written [] b b 0
unfolding put
written_nothing b = record { tape = refl; count_is = refl; within = omega arith }

pub left_out : (t : Bool) (u b : List ℕ) → t ≡ false → Written (opt t u) b b 0
unfolding opt
left_out t u b h = rw h (written_nothing b)

pub put_in : (t : Bool) (u b a : List ℕ) (r : ℕ) → t ≡ true → Written u b a r → Written (opt t u) b a r
unfolding opt
put_in t u b a r h w = rw h w

pub room_in : (t : Bool) (u : List ℕ) (m : ℕ) → length (opt t u) ≤ m → t ≡ true → length u ≤ m
unfolding opt
room_in t u m l h = rw h at l

pub length_out : (t : Bool) (u : List ℕ) → t ≡ false → 0 ≡ length (opt t u)
unfolding opt
length_out t u h = rw h

pub length_in : (t : Bool) (u : List ℕ) (r : ℕ) → t ≡ true → r ≡ length u → r ≡ length (opt t u)
unfolding opt
length_in t u r h e = rw h e

-- where a callee answered the test
pub told_written : (t q : Bool) (u b a : List ℕ) (r : ℕ) → Written (opt t u) b a r → t ≡ q → Written (opt q u) b a r
told_written t q u b a r w e = rw e at w

pub told_room : (t q : Bool) (u : List ℕ) (m : ℕ) → t ≡ q → length (opt q u) ≤ m → length (opt t u) ≤ m
told_room t q u m e l = rw e l

pub told_length : (t q : Bool) (u : List ℕ) (r : ℕ) → r ≡ length (opt t u) → t ≡ q → r ≡ length (opt q u)
told_length t q u r h e = rw e at h

pub ruleset answers = (told_written, told_room, told_length)

-- a text that may be left out, written, fitted and measured: `search options`
pub ruleset options = (left_out, put_in, room_in, length_out, length_in, written_nothing)

-- ---- a choice between two texts
pub picked_yes : (t : Bool) (u v b a : List ℕ) (r : ℕ) → t ≡ true → Written u b a r → Written (pick t u v) b a r
unfolding pick
picked_yes t u v b a r h w = rw h w

pub picked_no : (t : Bool) (u v b a : List ℕ) (r : ℕ) → t ≡ false → Written v b a r → Written (pick t u v) b a r
unfolding pick
picked_no t u v b a r h w = rw h w

pub room_yes : (t : Bool) (u v : List ℕ) (m : ℕ) → length (pick t u v) ≤ m → t ≡ true → length u ≤ m
unfolding pick
room_yes t u v m l h = rw h at l

pub room_no : (t : Bool) (u v : List ℕ) (m : ℕ) → length (pick t u v) ≤ m → t ≡ false → length v ≤ m
unfolding pick
room_no t u v m l h = rw h at l

-- the same of a choice in a choice
pub room_no_yes : (t q : Bool) (u v w : List ℕ) (m : ℕ) → length (pick t u (pick q v w)) ≤ m → t ≡ false → q ≡ true → length v ≤ m
room_no_yes t q u v w m l h k = room_yes q v w m (room_no t u (pick q v w) m l h) k

pub room_no_no : (t q : Bool) (u v w : List ℕ) (m : ℕ) → length (pick t u (pick q v w)) ≤ m → t ≡ false → q ≡ false → length w ≤ m
room_no_no t q u v w m l h k = room_no q v w m (room_no t u (pick q v w) m l h) k

pub room_yes_yes : (t q : Bool) (u v w : List ℕ) (m : ℕ) → length (pick t (pick q u v) w) ≤ m → t ≡ true → q ≡ true → length u ≤ m
room_yes_yes t q u v w m l h k = room_yes q u v m (room_yes t (pick q u v) w m l h) k

pub room_yes_no : (t q : Bool) (u v w : List ℕ) (m : ℕ) → length (pick t (pick q u v) w) ≤ m → t ≡ true → q ≡ false → length v ≤ m
room_yes_no t q u v w m l h k = room_no q u v m (room_yes t (pick q u v) w m l h) k

pub length_yes : (t : Bool) (u v : List ℕ) (r : ℕ) → t ≡ true → r ≡ length u → r ≡ length (pick t u v)
unfolding pick
length_yes t u v r h e = rw h e

pub length_no : (t : Bool) (u v : List ℕ) (r : ℕ) → t ≡ false → r ≡ length v → r ≡ length (pick t u v)
unfolding pick
length_no t u v r h e = rw h e

-- a test from the fact
pub ruleset facts = (lt-ltb, le-ltb, le-leb, lt-leb, eq-eqb, ne_eqb)

-- a choice, written, fitted and measured: `search choices`
pub ruleset choices = (picked_yes, picked_no, room_yes, room_no, room_no_yes, room_no_no, room_yes_yes, room_yes_no, length_yes, length_no, written_nothing, facts)

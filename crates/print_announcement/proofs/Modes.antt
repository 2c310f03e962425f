-- Laws of the minimum price change in dollars, in the form of the code's needs. Assumes nothing.
use Prim.Native.Nat.{ℕ, ◌-◌, ◌*◌, ◌/◌, ◌%◌, ◌≤◌}
use native.Mathlib.Omega.{arith}
use mathlib.Core.Path.{◌≡◌, sym}
use mathlib.Core.List.{List, ◌++◌}
use lib.ListN.{length, take, drop}
use Rattle.text.specs.Bytes.{bytes}
use Rattle.text.specs.Decimal.{places}
use Rattle.text.specs.Put.{Written}
use Rattle.text.proofs.Decimal.{length_places}
use Rattle.text.proofs.Writing.{room}
use Rattle.rules.specs.Price.{whole_text}
use Rattle.rules.specs.Announcement.{minimum_dollars}

pub two_places : (n : ℕ) → 2 ≡ length (places 2 n)
two_places n = sym (length_places 2 n)

pub places_room : (w c : ℕ) {b xs : List ℕ} {at : ℕ} → length (whole_text w ++ bytes "," ++ places 2 c) ≤ length b → Written (whole_text w ++ bytes ",") b xs at → 2 ≤ length (take (length xs - at) (drop at xs))
places_room w c h v = omega (arith, two_places c, room (places 2 c) v h)

-- two places go by the number below a hundred
places_below : (m n : ℕ) → m % 100 ≡ n % 100 → places 2 m ≡ places 2 n
unfolding places
places_below m n e =
    let p : m / 10 % 10 ≡ n / 10 % 10 = omega arith in
    let q : m % 10 ≡ n % 10 = omega arith in
    rw (p, q)

-- five cents a level: a dollar has twenty
pub dollars_is : (k : ℕ) → minimum_dollars k ≡ whole_text (k / 20) ++ bytes "," ++ places 2 (k % 20 * 5)
unfolding minimum_dollars
dollars_is k =
    let w : 5 * k / 100 ≡ k / 20 = omega arith in
    rw (w, places_below (5 * k) (k % 20 * 5) (omega arith))

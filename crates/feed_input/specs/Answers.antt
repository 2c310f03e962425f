-- WHAT A READ MAY DO, where a program asks for one: some bytes come behind those that are held, at most as many as the block has room for; none come, and the input is at its end; or it fails, and the bytes behind those that are held may be anything. Assumes nothing.
use Rattle.std.specs.Prelude.{ℕ, ◌+◌, ◌≤◌, ◌≡◌, true, false, List, [], Ok, Err, length, take, drop}
use Rattle.feed_input.specs.Place.{Answer}
use Rattle.feed_input.specs.declared.Place.{Place}
use Rattle.feed_input.specs.declared.ReadFailed.{ReadFailed}

-- the block keeps its size and what is held
pub record Kept (p : Place) (block block' : List ℕ) : Type 0 where
  pub size : length block' ≡ length block
  pub kept : take p.have block' ≡ take p.have block

-- from a place and its block: the bytes that came, the answer, and the block then
pub data Answers (p : Place) (block : List ℕ) : List ℕ → Answer → List ℕ → Type 0 where
  unasked : (answer : Answer) → p.asks ≡ false → Answers p block [] answer block
  came : {bytes block' : List ℕ} → p.asks ≡ true → Kept p block block' → p.have + length bytes ≤ length block → take (length bytes) (drop p.have block') ≡ bytes → Answers p block bytes (Ok (length bytes)) block'
  fails : {block' : List ℕ} (failure : ReadFailed) → p.asks ≡ true → Kept p block block' → Answers p block [] (Err failure) block'

-- WHAT A RUN PROMISES: it is a session from a fresh state; its input is what was taken of a reader whose bytes are known, and what it tells on standard output is appended to a writer that shows its bytes. Assumes nothing.
use Rattle.std.specs.Prelude.{ℕ, ◌≡◌, Bool, List, length, replicate}
use Rattle.std.specs.Io.KnownBytes.{Appends, Consumes}
use Rattle.std.specs.declared.option.Option.{Option}
use Rattle.call_table.specs.Sizes.{table_size, names_size}
use Rattle.feed_gather.specs.Gather.{Program}
use Rattle.feed_step.specs.Step.{opening}
use Rattle.feed_step.specs.Session.{Session, Turned}
use Rattle.feed_step.specs.declared.Standing.{Standing}
use Rattle.feed_step.specs.declared.Stepped.{Stepped}

-- a turn; of a reader whose bytes are known, which are left: the bytes of its read were taken
pub record Takes (g : Program) (s : Standing) (table names block out err table' names' block' out' err' : List ℕ) (left left' : Option (List ℕ)) (r : Stepped) : Type 0 where
  pub turned : Turned g s table names block out err table' names' block' out' err' r
  pub taken : Consumes left left' turned.bytes

-- a run in a block of so many bytes, to its last step: what is left of the input, and what is shown of standard output, where these are known. `whole` is free: a run that ends where it would read, as if that read had failed, is one too
pub record Ran (g : Program) (size : ℕ) (left left' shown shown' : Option (List ℕ)) : Type 0 where
  pub block : List ℕ
  pub size_is : length block ≡ size
  pub input : List ℕ
  pub whole : Bool
  pub out : List ℕ
  pub err : List ℕ
  pub session : Session g opening (replicate table_size 0) (replicate names_size 0) block input whole out err
  pub taken : Consumes left left' input
  pub written : Appends shown shown' out

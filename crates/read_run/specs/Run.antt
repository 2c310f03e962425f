-- WHAT A RUN PROMISES: it is a session from a tape's front; its input is what was taken of a reader whose bytes are known, and what it tells is appended to a writer that shows its bytes. Assumes nothing.
use Rattle.std.specs.Prelude.{ℕ, ◌≡◌, Bool, List, length}
use Rattle.std.specs.Io.KnownBytes.{Appends, Consumes}
use Rattle.std.specs.declared.option.Option.{Option}
use Rattle.read_tape.specs.Tape.{Line}
use Rattle.read_step.specs.Step.{opened}
use Rattle.read_step.specs.Session.{Session, Turn}
use Rattle.read_step.specs.declared.Standing.{Standing}
use Rattle.read_step.specs.declared.Stepped.{Stepped}

-- a turn; of a reader whose bytes are known, which are left: the bytes of its read were taken
pub record Takes (line : Line) (most : ℕ) (s : Standing) (block lines block' lines' : List ℕ) (left left' : Option (List ℕ)) (r : Stepped) : Type 0 where
  pub turn : Turn line most s block lines block' lines' r
  pub taken : Consumes left left' turn.bytes

-- a run in a block of so many bytes, to its last step: what is left of the input, and what is shown of the output, where these are known. `whole` is free: a run that ends where it would read, as if that read had failed, is one too
pub record Ran (line : Line) (most size : ℕ) (left left' shown shown' : Option (List ℕ)) : Type 0 where
  pub block : List ℕ
  pub size_is : length block ≡ size
  pub input : List ℕ
  pub whole : Bool
  pub output : List ℕ
  pub session : Session line most opened block input whole output
  pub taken : Consumes left left' input
  pub written : Appends shown shown' output

-- A turn takes what it reads; turns joined are a session. Assumes nothing.
use Rattle.std.specs.Prelude.{ℕ, ◌≤◌, ◌≡◌, Bool, true, false, not, List, [], ◌++◌, length, take, drop}
use Rattle.std.proofs.Common.{refl, subst, append_assoc}
use Rattle.std.specs.Io.KnownBytes.{Appends, Consumes}
use Rattle.std.proofs.KnownBytes.{Consumes-nil, Consumes-trans, Appends-nil, Appends-trans}
use Rattle.std.specs.declared.option.Option.{Option}
use Rattle.feed_input.specs.Place.{Answer}
use Rattle.feed_refill.specs.Read.{Reading, Taken}
use Rattle.feed_refill.proofs.Laws.{bytes_taken}
use Rattle.read_tape.specs.Tape.{Line}
use Rattle.read_step.specs.Step.{opened, Steps}
use Rattle.read_step.specs.Session.{Turn, Session, next, last}
use Rattle.read_step.specs.declared.Standing.{Standing}
use Rattle.read_step.specs.declared.Stepped.{Stepped}
use Rattle.read_step.proofs.Programs.{step_within, step_count}
use Rattle.read_run.specs.Run.{Takes, Ran}

pub takes : {line : Line} {most : ℕ} {s : Standing} {block read block' lines lines' : List ℕ} {z : Answer} {r : Stepped} (left left' : Option (List ℕ)) → Reading s.place block read z → Taken s.place.asks z left left' (drop s.place.have read)
    → Steps line most s z read lines block' lines' r → Takes line most s block lines block' lines' left left' r
takes {read = read} {z = z} left left' x t st = record {
  turn = record { bytes = x.bytes; answer = z; block' = read; answers = x.answers; steps = st; within = step_within st; count = step_count st };
  taken = bytes_taken left left' x.answers t;
}

-- ---- turns joined

-- so far: whatever session goes on from here, the turns before it and it are one; `left0` and `shown0` were known at the start
pub record Going (line : Line) (most : ℕ) (block0 : List ℕ) (s0 s : Standing) (block : List ℕ) (left0 left shown0 shown : Option (List ℕ)) : Type 0 where
  pub input : List ℕ
  pub output : List ℕ
  pub joins : {input' output' : List ℕ} {whole : Bool} → Session line most s block input' whole output' → Session line most s0 block0 (input ++ input') whole (output ++ output')
  pub taken : Consumes left0 left input
  pub written : Appends shown0 shown output

pub begins : {line : Line} {most : ℕ} {s : Standing} {block : List ℕ} (left shown : Option (List ℕ)) → Going line most block s s block left left shown shown
begins left shown = record { input = []; output = []; joins = λ x. x; taken = Consumes-nil left; written = Appends-nil shown }

module _ {line : Line} {most : ℕ} {s : Standing} {block lines block' lines' : List ℕ} {r : Stepped} {left left' : Option (List ℕ)} (t : Takes line most s block lines block' lines' left left' r) (room : most ≤ length lines) where
  module _ {block0 : List ℕ} {s0 : Standing} {left0 shown0 shown shown' : Option (List ℕ)} (x : Going line most block0 s0 s block left0 left shown0 shown) (w : Appends shown shown' (take r.count lines')) where
    pub goes_on : r.over ≡ false → Going line most block0 s0 r.standing block' left0 left' shown0 shown'
    goes_on o = record {
      input = x.input ++ t.turn.bytes;
      output = x.output ++ take r.count lines';
      joins = λ {input'} {output'} {whole} y. rw (append_assoc x.input t.turn.bytes input', append_assoc x.output (take r.count lines') output') (x.joins (next room t.turn.answers t.turn.steps o y));
      taken = Consumes-trans left0 left left' x.input t.turn.bytes x.taken t.taken;
      written = Appends-trans shown0 shown shown' x.output (take r.count lines') x.written w;
    }

    pub ends : s0 ≡ opened → r.over ≡ true → Ran line most (length block0) left0 left' shown0 shown'
    ends e o =
        let whole = not r.standing.place.failed in
        let i = x.input ++ t.turn.bytes in
        let a = x.output ++ take r.count lines' in
        record {
          block = block0;
          size_is = refl;
          input = i;
          whole = whole;
          output = a;
          session = subst (λ n. Session line most n block0 i whole a) e (x.joins (last room t.turn.answers t.turn.steps o));
          taken = Consumes-trans left0 left left' x.input t.turn.bytes x.taken t.taken;
          written = Appends-trans shown0 shown shown' x.output (take r.count lines') x.written w;
        }

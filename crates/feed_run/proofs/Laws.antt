-- A turn takes what it reads; turns joined are a session. Assumes nothing.
use Rattle.std.specs.Prelude.{ℕ, ◌≤◌, ◌≡◌, Bool, true, false, not, List, [], ◌++◌, Ok, Err, length, take, drop, replicate}
use Rattle.std.proofs.Common.{refl, subst, append_assoc}
use Rattle.std.specs.Io.KnownBytes.{Appends, Consumes, Keeps}
use Rattle.std.proofs.KnownBytes.{Consumes-nil, Consumes-kept, Consumes-trans, Appends-nil, Appends-trans}
use Rattle.std.specs.declared.option.Option.{Option}
use Rattle.call_table.specs.Sizes.{table_size, names_size}
use Rattle.feed_gather.specs.Gather.{Program}
use Rattle.feed_input.specs.Place.{Answer, Within}
use Rattle.feed_input.specs.Answers.{Answers}
use Rattle.feed_input.specs.Answers.Answers.{unasked, came, fails}
use Rattle.feed_input.specs.declared.Place.{Place}
use Rattle.feed_refill.specs.Read.{Reading, Taken}
use Rattle.feed_refill.proofs.Laws.{bytes_taken}
use Rattle.feed_step.specs.Step.{opening, Steps}
use Rattle.feed_step.specs.Session.{Turn, Turned, Session, next, last}
use Rattle.feed_step.specs.declared.Standing.{Standing}
use Rattle.feed_step.specs.declared.Stepped.{Stepped}
use Rattle.feed_step.proofs.Steps.{stands_within, out_fits, err_fits}
use Rattle.feed_run.specs.Run.{Takes, Ran}

pub takes : {g : Program} {s : Standing} {table names block read out err table' names' block' out' err' : List ℕ} {z : Answer} {r : Stepped} (left left' : Option (List ℕ)) → Reading s.place block read z → Taken s.place.asks z left left' (drop s.place.have read)
    → Steps g s z table names read out err table' names' block' out' err' r → Takes g s table names block out err table' names' block' out' err' left left' r
takes {read = read} {z = z} left left' x t st = record {
  turned = record { bytes = x.bytes; answer = z; read = read; answers = x.answers; steps = st; within = stands_within st; out_fits = out_fits st; err_fits = err_fits st };
  taken = bytes_taken left left' x.answers t;
}

-- ---- turns joined

-- so far: whatever session goes on from here, the turns before it and it are one; `left`, `shown` were known at the start
pub record Going (g : Program) (table0 names0 block0 : List ℕ) (s0 s : Standing) (table names block : List ℕ) (left left' shown shown' : Option (List ℕ)) : Type 0 where
  pub input : List ℕ
  pub out : List ℕ
  pub err : List ℕ
  pub joins : {input' out' err' : List ℕ} {whole : Bool} → Session g s table names block input' whole out' err' → Session g s0 table0 names0 block0 (input ++ input') whole (out ++ out') (err ++ err')
  pub taken : Consumes left left' input
  pub written : Appends shown shown' out

pub begins : {g : Program} {s : Standing} {table names block : List ℕ} (left shown : Option (List ℕ)) → Going g table names block s s table names block left left shown shown
begins left shown = record { input = []; out = []; err = []; joins = λ x. x; taken = Consumes-nil left; written = Appends-nil shown }

module _ {g : Program} {s : Standing} {table names block out err table' names' block' out' err' : List ℕ} {r : Stepped} {left left' : Option (List ℕ)} (t : Takes g s table names block out err table' names' block' out' err' left left' r) (a : g.out_most ≤ length out) (b : g.err_most ≤ length err) where
  link : Turn g s table names block t.turned.bytes (take r.out out') (take r.err err') table' names' block' r
  link = record { answer = t.turned.answer; read = t.turned.read; lent_out = out; lent_err = err; told_out = out'; told_err = err'; answers = t.turned.answers; steps = t.turned.steps; out_room = a; err_room = b; out_is = refl; err_is = refl }

  module _ {table0 names0 block0 : List ℕ} {s0 : Standing} {left0 shown0 shown shown' : Option (List ℕ)} (x : Going g table0 names0 block0 s0 s table names block left0 left shown0 shown) (w : Appends shown shown' (take r.out out')) where
    pub goes_on : r.over ≡ false → Going g table0 names0 block0 s0 r.standing table' names' block' left0 left' shown0 shown'
    goes_on o = record {
      input = x.input ++ t.turned.bytes;
      out = x.out ++ take r.out out';
      err = x.err ++ take r.err err';
      joins = λ {input'} {out' = o'} {err' = e'} {whole} y. rw (append_assoc x.input t.turned.bytes input', append_assoc x.out (take r.out out') o', append_assoc x.err (take r.err err') e') (x.joins (next link o y));
      taken = Consumes-trans left0 left left' x.input t.turned.bytes x.taken t.taken;
      written = Appends-trans shown0 shown shown' x.out (take r.out out') x.written w;
    }

    pub ends : s0 ≡ opening → table0 ≡ replicate table_size 0 → names0 ≡ replicate names_size 0 → r.over ≡ true → Ran g (length block0) left0 left' shown0 shown'
    ends e f h o =
        let whole = not r.standing.place.failed in
        let i = x.input ++ t.turned.bytes in
        let a = x.out ++ take r.out out' in
        let b = x.err ++ take r.err err' in
        record {
          block = block0;
          size_is = refl;
          input = i;
          whole = whole;
          out = a;
          err = b;
          session = subst (λ n. Session g opening (replicate table_size 0) n block0 i whole a b) h (subst (λ n. Session g opening n names0 block0 i whole a b) f (subst (λ n. Session g n table0 names0 block0 i whole a b) e (x.joins (last link o))));
          taken = Consumes-trans left0 left left' x.input t.turned.bytes x.taken t.taken;
          written = Appends-trans shown0 shown shown' x.out (take r.out out') x.written w;
        }

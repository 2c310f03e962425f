-- A list of calls from a fresh state prints the rules' tape, and its tables hold the rules' day. Assumes nothing.
use Prim.Native.Nat.{ℕ, ◌+◌, ◌*◌, ◌≤◌}
use native.Mathlib.Omega.{arith}
use mathlib.Core.Path.{◌≡◌, refl, sym, ap, ◌∙◌}
use mathlib.Core.List.{List, ◌++◌}
use lib.ListN.{length, take, drop, replicate, length-append, length-take, length-drop}
use lib.Seq.{take_at}
use Rattle.text.specs.Put.{put}
use Rattle.rules.specs.Line.{name_columns}
use Rattle.rules.specs.Day.{Day, opened, fresh, tape_of, after, refusal_of}
use Rattle.rules.specs.declared.Settings.{Settings}
use Rattle.rules.proofs.Fields.{name_length}
use Rattle.call_table.specs.Sizes.{table_size, names_size}
use Rattle.call_table.specs.Rows.{day_of, with_name}
use Rattle.call_table.proofs.Places.{length_row}
use Rattle.call_table.proofs.Held.{held_cleared}
use Rattle.call_plan.specs.declared.Plan.{Plan}
use Rattle.call_plan.specs.declared.Plan.TheVariants.{Stop, Open, Enter, Change, Level, Step, Print, Cancel, Correct}
use Rattle.call_plan.specs.Plan.{plan_of}
use Rattle.engine.specs.declared.Answer.{Answer}
use Rattle.call_print.specs.Print.{printed_name, text_of, print_of, SoundPlan}
use Rattle.engine.specs.Taken.{asked, Taken, count_of}
use Rattle.call_state.specs.After.{settings_after, table_after, names_after}
use Rattle.call_print.proofs.Sound.{sound_asked}
use Rattle.call_print.proofs.Room.{fitted_sound}
use Rattle.claim_calls.specs.Held.{stop_of, day_after, ByRules}
use Rattle.claim_calls.specs.Run.{State, Sized, Lent, Run, call_of, tape_from, day_from, Holds}
use Rattle.claim_calls.specs.Run.Run.{done, call}
use Rattle.claim_calls.specs.Run.Holds.{held, undated}
use Rattle.claim_calls.proofs.Agree.{by_rules}
use Rattle.claim_calls.proofs.Early.{Early, early_asked, same_asked}

-- ---- the tables keep their sizes

table_length : (table : List ℕ) (p : Plan) → length table ≡ table_size → length (table_after table p) ≡ table_size
unfolding table_after
table_length table (Stop r) h = h
table_length table (Open n) h = refl
table_length table (Enter i s) h = length_row table i s ∙ h
table_length table (Change m) h = h
table_length table (Level n) h = h
table_length table (Step n) h = h
table_length table (Print t) h = length_row table t.place t.after ∙ h
table_length table (Cancel t) h = h
table_length table (Correct c) h = length_row table c.place c.after ∙ h

with_name_length : (names name : List ℕ) (at : ℕ) → at + length name ≤ length names → length (with_name names at name) ≡ length names
unfolding with_name
with_name_length names name at h = simp (length-append, length-take, length-drop) (omega arith)

names_length : (names line : List ℕ) (p : Plan) → SoundPlan line p → length names ≡ names_size → length (names_after names line p) ≡ names_size
unfolding names_after SoundPlan
names_length names line (Stop r) k h = h
names_length names line (Open n) k h = refl
names_length names line (Enter i s) k h = with_name_length names (name_columns line) (i * 19) (omega (arith, k.0, name_length line k.1, h)) ∙ h
names_length names line (Change m) k h = h
names_length names line (Level n) k h = h
names_length names line (Step n) k h = h
names_length names line (Print t) k h = h
names_length names line (Cancel t) k h = h
names_length names line (Correct c) k h = h

asked_sound : (st : Settings) (table names line : List ℕ) (room : ℕ) → SoundPlan line (asked st table names line room)
unfolding asked
asked_sound st table names line room =
    let p = plan_of st table names line in
    fitted_sound st (printed_name names p) line p _ room refl (sound_asked st table names line p refl)

-- ---- one link

module _ (s m : State) (c : Lent) (b : List ℕ) (r : Answer) (t : Taken s.settings s.table s.names c.line c.tape m.table m.names b r) (kept : r.settings ≡ m.settings) where
  abbrev p : Plan
  p = asked s.settings s.table s.names c.line (length c.tape)

  pub link_tape : take (count_of r.outcome) b ≡ print_of s.settings s.names p
  unfolding put
  link_tape =
      let text = print_of s.settings s.names p in
      let n : count_of r.outcome ≡ length text = t.count_is in
      ap (λ (k : ℕ). take k b) n ∙ (ap (take (length text)) t.tape_is ∙ take_at text (drop (length text) c.tape) (length text) refl)

  pub link_sized : Sized s → Sized m
  link_sized h =
      record {
        rows = ap length t.table_is ∙ table_length s.table p h.rows;
        places = ap length t.names_is ∙ names_length s.names c.line p (asked_sound s.settings s.table s.names c.line (length c.tape)) h.places;
      }

  link_day : day_of m.settings m.table m.names ≡ day_after s.settings s.table s.names c.line p
  unfolding day_after
  link_day = rw (sym kept ∙ t.settings, t.table_is, t.names_is)

  -- from tables that hold a day
  pub link_held : (day : Day) → Sized s → day_of s.settings s.table s.names ≡ day → (take (count_of r.outcome) b ≡ tape_of day (call_of c)) × (day_of m.settings m.table m.names ≡ after day (call_of c))
  link_held day h e =
      let a = by_rules s.settings s.table s.names c.line (length c.tape) h.rows h.places in
      rw (← e) (link_tape ∙ sym a.print_is, link_day ∙ sym a.day_is)

-- ---- before the first date line

noughts : (table names line : List ℕ) (p : Plan) → Early p → Holds (record { settings = settings_after (opened 0) p; table = table_after table p; names = names_after names line p }) (day_after (opened 0) (replicate table_size 0) (replicate names_size 0) line p)
unfolding Early settings_after table_after names_after day_after fresh
noughts table names line (Stop r) h = undated refl (held_cleared 0)
noughts table names line (Open n) h = held refl
noughts table names line (Enter i s) h = absurd h
noughts table names line (Change m) h = absurd h
noughts table names line (Level n) h = absurd h
noughts table names line (Step n) h = absurd h
noughts table names line (Print t) h = absurd h
noughts table names line (Cancel t) h = absurd h
noughts table names line (Correct c) h = absurd h

early_print : (st : Settings) (m n : List ℕ) (p : Plan) → Early p → print_of st m p ≡ print_of st n p
unfolding Early print_of text_of printed_name
early_print st m n (Stop r) h = refl
early_print st m n (Open k) h = refl
early_print st m n (Enter i s) h = absurd h
early_print st m n (Change k) h = absurd h
early_print st m n (Level k) h = absurd h
early_print st m n (Step k) h = absurd h
early_print st m n (Print t) h = absurd h
early_print st m n (Cancel t) h = absurd h
early_print st m n (Correct c) h = absurd h

holds_as : (m : State) (st : Settings) (table names : List ℕ) (day : Day) → m.settings ≡ st → m.table ≡ table → m.names ≡ names → Holds (record { settings = st; table = table; names = names }) day → Holds m day
holds_as m st table names day e f g (held h) = held (rw (e, f, g) h)
holds_as m st table names day e f g (undated h k) = undated (e ∙ h) k

module _ (s m : State) (c : Lent) (b : List ℕ) (r : Answer) (t : Taken s.settings s.table s.names c.line c.tape m.table m.names b r) (kept : r.settings ≡ m.settings) (first : s.settings ≡ opened 0) where
  abbrev room : ℕ
  room = length c.tape

  abbrev q : Plan
  q = asked (opened 0) (replicate table_size 0) (replicate names_size 0) c.line room

  plan_is : asked s.settings s.table s.names c.line room ≡ q
  plan_is = rw first (same_asked c.line room s.table (replicate table_size 0) s.names (replicate names_size 0))

  early_q : Early q
  early_q = early_asked c.line room (replicate table_size 0) (replicate names_size 0)

  from_fresh : ByRules (opened 0) (replicate table_size 0) (replicate names_size 0) c.line room
  from_fresh = by_rules (opened 0) (replicate table_size 0) (replicate names_size 0) c.line room refl refl

  is_fresh : day_of (opened 0) (replicate table_size 0) (replicate names_size 0) ≡ fresh
  unfolding fresh
  is_fresh = held_cleared 0

  first_tape : take (count_of r.outcome) b ≡ tape_of fresh (call_of c)
  first_tape =
      link_tape s m c b r t kept
      ∙ (ap (print_of s.settings s.names) plan_is
      ∙ (ap (λ (x : Settings). print_of x s.names q) first
      ∙ (early_print (opened 0) s.names (replicate names_size 0) q early_q
      ∙ (sym from_fresh.print_is
      ∙ ap (λ (d : Day). tape_of d (call_of c)) is_fresh))))

  first_holds : Holds m (after fresh (call_of c))
  first_holds =
      let settled : m.settings ≡ settings_after (opened 0) q = sym kept ∙ (t.settings ∙ (ap (settings_after s.settings) plan_is ∙ ap (λ (x : Settings). settings_after x q) first)) in
      let table : m.table ≡ table_after s.table q = t.table_is ∙ ap (table_after s.table) plan_is in
      let names : m.names ≡ names_after s.names c.line q = t.names_is ∙ ap (names_after s.names c.line) plan_is in
      let day : after fresh (call_of c) ≡ day_after (opened 0) (replicate table_size 0) (replicate names_size 0) c.line q = ap (λ (d : Day). after d (call_of c)) (sym is_fresh) ∙ from_fresh.day_is in
      rw day (holds_as m _ _ _ _ settled table names (noughts s.table s.names c.line q early_q))

-- ---- the whole list

pub link_holds : (s m : State) (c : Lent) (b : List ℕ) (r : Answer) (t : Taken s.settings s.table s.names c.line c.tape m.table m.names b r) (kept : r.settings ≡ m.settings) (day : Day) → Sized s → Holds s day → (take (count_of r.outcome) b ≡ tape_of day (call_of c)) × Holds m (after day (call_of c))
link_holds s m c b r t kept day z (held e) = let h = link_held s m c b r t kept day z e in (h.0, held h.1)
link_holds s m c b r t kept day z (undated e f) = rw f (first_tape s m c b r t kept e, first_holds s m c b r t kept e)

-- the refusal, by what the state holds
pub link_refusal : (s : State) (line : List ℕ) (room : ℕ) (day : Day) → Sized s → Holds s day → refusal_of day line room ≡ stop_of (asked s.settings s.table s.names line room)
unfolding fresh
link_refusal s line room day z (held e) = rw (← e) (by_rules s.settings s.table s.names line room z.rows z.places).refusal_is
link_refusal s line room day z (undated e f) =
    rw (e, f)
    (ap (λ (d : Day). refusal_of d line room) (sym (held_cleared 0))
    ∙ ((by_rules (opened 0) (replicate table_size 0) (replicate names_size 0) line room refl refl).refusal_is ∙ ap stop_of (same_asked line room (replicate table_size 0) s.table (replicate names_size 0) s.names)))

pub run_by_rules : {s e : State} {cs : List Lent} {out : List ℕ} → Run s cs e out → (day : Day) → Sized s → Holds s day → (out ≡ tape_from day cs) × Holds e (day_from day cs)
unfolding tape_from day_from
run_by_rules done day z h = (refl, h)
run_by_rules (call {s} {m} {e} {c} {cs} {b} {out} {r} t kept rest) day z h =
    let l = link_holds s m c b r t kept day z h in
    let i = run_by_rules rest (after day (call_of c)) (link_sized s m c b r t kept z) l.1 in
    (rw l.0 (ap (λ (x : List ℕ). tape_of day (call_of c) ++ x) i.0), i.1)

-- from a fresh state, whatever the lent tables hold
pub fresh_run : {s e : State} {cs : List Lent} {out : List ℕ} → Run s cs e out → s.settings ≡ opened 0 → Sized s → (out ≡ tape_from fresh cs) × Holds e (day_from fresh cs)
fresh_run r f z = run_by_rules r fresh z (undated f refl)

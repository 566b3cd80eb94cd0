-- What one command after another is replied.
use Rattle.std.proofs.Common.{◌≡◌, ℕ, ◌+◌, ◌-◌, ◌^◌, ◌<◌, ◌≤◌, List, [], ◌∷◌, ◌++◌, Option, None, Result, Ok, Err, MatchResult, length, length-take, take, drop, suc, get_or, take-append-drop, drop-cons, refl, ap, sym, ◌∙◌, subst, arith, inl, inr, add-one}
use Rattle.std.proofs.lemmas.List.{append-nil, take_all}
use Rattle.std.proofs.Math.Seq.{take-suc}
use Rattle.std.specs.List.{AllByRecursion}
use Rattle.far_object.specs.Encodings.{enc_text}
use Rattle.table_core.specs.Maps.{map_of, reply}
use Rattle.table_core.specs.Logs.{history, names_of}
use Rattle.table_core.specs.Machines.{buckets_of}
use Rattle.command_file.specs.declared.command.Command.{Command}
use Rattle.command_file.specs.declared.command.Command.TheVariants.{Map, Table}
use Rattle.command_file.specs.declared.command.MapCommand.{MapCommand}
use Rattle.command_file.specs.declared.command.TableCommand.{TableCommand}
use Rattle.run_lines.specs.declared.refusal.LineRefusal.{LineRefusal}
use Rattle.run_lines.specs.Calls.{Asked, Call, calls_by, operation_of, IsTooLong}
use Rattle.run_lines.specs.Replies.{line_of, held_by}
use Rattle.run_lines.proofs.Calls.{calls_by-append, calls_by-own}
use Rattle.run_lines.proofs.Replying.{Step, replied_more}
use Rattle.run_lines.proofs.Written.{written-more}
use Rattle.plain_run.specs.declared.table.PlainTable.{PlainTable}
use Rattle.plain_run.specs.Tables.{Log, IsAt, IsWhy, CallEnds}
use Rattle.plain_run.specs.Runs.{IsOfMap, MayReply, AsksTableAt, RunsTo}

-- ---- lists

all-push : {A : Type 0} (P : A → Type 0) (xs : List A) (x : A) → AllByRecursion P xs → P x → AllByRecursion P (xs ++ x ∷ [])
all-push P [] x all p = (p, tt)
all-push P (y ∷ xs) x all p = (all.0, all-push P xs x all.1 p)

-- the command that was looked at is the one that was found
pub here : (commands : List Command) (i : ℕ) (c d : Command) → c ≡ get_or commands i c → c ≡ d → d ≡ get_or commands i d
here commands i c d at is = subst (λ (x : Command). x ≡ get_or commands i x) is at

-- ---- calls

-- a call that ends is one more command, and the calls stay the pass's own
pub record Ends (buckets limit : ℕ) (h h' : List Call) (held : Option (List ℕ)) (c : MapCommand) (line : List ℕ) : Type 0 where
  pub last : Option (List ℕ)
  pub step : Step (MayReply buckets limit) h h' 1 held (Map c) line last
  pub rest : List Call
  pub grows : h ++ rest ≡ h'
  pub own : AllByRecursion (λ call. call.0 ≡ 1) h → AllByRecursion (λ call. call.0 ≡ 1) h'

ends : (buckets limit : ℕ) (h h' : List Call) (held : Option (List ℕ)) (c : MapCommand) (r : Result (Option (List ℕ)) LineRefusal)
    → MatchResult r
    (λ answer. (h' ≡ h ++ (1, operation_of c) ∷ []) × (answer ≡ reply enc_text (map_of enc_text enc_text h) (operation_of c)) × (IsTooLong buckets limit (map_of enc_text enc_text h) (operation_of c) → ⊥))
    (λ why. (h' ≡ h) × IsWhy buckets limit (map_of enc_text enc_text h) (operation_of c) why)
    → Ends buckets limit h h' held c (line_of r)
ends buckets limit h h' held c (Ok answer) w =
    let o : Asked = operation_of c in
    record {
      last = held_by c answer held;
      step =
          inl (
            answer,
            refl,
            record { before = h; later = []; stands = w.0; past = refl; told = w.1; may = w.2 },
            ap (calls_by 1) w.0 ∙ (calls_by-append 1 h ((1, o) ∷ []) ∙ ap (λ (x : List Asked). calls_by 1 h ++ x) (calls_by-own 1 o)),
            refl,
          );
      rest = (1, o) ∷ [];
      grows = sym w.0;
      own = λ all. subst (λ (x : List Call). AllByRecursion (λ call. call.0 ≡ 1) x) (sym w.0) (all-push (λ (call : Call). call.0 ≡ 1) h (1, o) all refl);
    }
ends buckets limit h h' held c (Err why) w =
    record {
      last = held;
      step =
          inr (
            record { why = why; line_is = refl; place = record { before = h; later = []; stands = w.0 ∙ sym (append-nil h); past = refl }; may = w.1 },
            ap (calls_by 1) w.0,
            refl,
          );
      rest = [];
      grows = append-nil h ∙ sym w.0;
      own = λ all. subst (λ (x : List Call). AllByRecursion (λ call. call.0 ≡ 1) x) (sym w.0) all;
    }

-- ---- the loop

-- i commands have been run
pub record Running (old new : PlainTable) (commands : List Command) (i : ℕ) (text : List ℕ) : Type 0 where
  pub so_far : RunsTo old new (take i commands) text
  pub buckets : buckets_of new.machine ≡ buckets_of old.machine
  pub limit : new.limit ≡ old.limit
  pub few : names_of so_far.log ≤ i

pub start : (old : PlainTable) (commands : List Command) (text : List ℕ) → text ≡ [] → ((log : Log) × IsAt old log × (history log ≡ []) × (names_of log ≡ 0)) → Running old old commands 0 text
start old commands text none fresh =
    record {
      so_far = record {
        log = fresh.0;
        stands = fresh.1;
        lines = [];
        mapped = tt;
        replied = (None, (ap (calls_by 1) fresh.2, refl));
        own = subst (λ (x : List Call). AllByRecursion (λ call. call.0 ≡ 1) x) (sym fresh.2) tt;
        text_is = none;
      };
      buckets = refl;
      limit = refl;
      few = omega (arith, fresh.3);
    }

pub room : (old new : PlainTable) (commands : List Command) (i : ℕ) (text : List ℕ) → Running old new commands i text → i < length commands → length commands ≤ 65536 → (log : Log) × IsAt new log × (names_of log < 2 ^ 40 - 1)
room old new commands i text r lt few = (r.so_far.log, r.so_far.stands, omega (arith, r.few))

pub next : (old new last : PlainTable) (commands : List Command) (i : ℕ) (text more : List ℕ) (c : MapCommand) (r : Result (Option (List ℕ)) LineRefusal)
    → Running old new commands i text → i < length commands → length commands ≤ 65536 → Map c ≡ get_or commands i (Map c)
    → ((log : Log) → IsAt new log → names_of log < 2 ^ 40 - 1 → CallEnds new last log (operation_of c) r) → more ≡ text ++ (line_of r ++ 10 ∷ []) → Running old last commands (i + 1) more
next old new last commands i text more c r run lt few at on more_is = record {
  so_far = record {
    log = g.later;
    stands = g.stands;
    lines = run.so_far.lines ++ line_of r ∷ [];
    mapped = rw taken (all-push IsOfMap (take i commands) (Map c) run.so_far.mapped tt);
    replied =
        rw taken (
          e.last,
          replied_more (MayReply (buckets_of old.machine) old.limit) (history run.so_far.log) (history g.later) 1 [] None (take i commands) run.so_far.lines run.so_far.replied.0 (Map c) (line_of r) e.last
              (e.rest, e.grows) run.so_far.replied.1 e.step,
        );
    own = e.own run.so_far.own;
    text_is = more_is ∙ (ap (λ (z : List ℕ). z ++ (line_of r ++ 10 ∷ [])) run.so_far.text_is ∙ sym (written-more run.so_far.lines (line_of r)));
  };
  buckets = g.buckets ∙ run.buckets;
  limit = g.limit ∙ run.limit;
  few = omega (arith, g.names, run.few);
}
  where
    g : CallEnds new last run.so_far.log (operation_of c) r
    g = on run.so_far.log run.so_far.stands (omega (arith, run.few))

    e : Ends (buckets_of old.machine) old.limit (history run.so_far.log) (history g.later) run.so_far.replied.0 c (line_of r)
    e =
        subst (λ (l : ℕ). Ends (buckets_of old.machine) l (history run.so_far.log) (history g.later) run.so_far.replied.0 c (line_of r)) run.limit
        (subst (λ (n : ℕ). Ends n new.limit (history run.so_far.log) (history g.later) run.so_far.replied.0 c (line_of r)) run.buckets
        (ends (buckets_of new.machine) new.limit (history run.so_far.log) (history g.later) run.so_far.replied.0 c r g.went))

    taken : take (i + 1) commands ≡ take i commands ++ Map c ∷ []
    taken = rw add-one (take-suc commands i (Map c) lt) ∙ ap (λ (x : Command). take i commands ++ x ∷ []) (sym at)

pub finish : (old new : PlainTable) (commands : List Command) (i : ℕ) (text : List ℕ) → Running old new commands i text → length commands ≤ i → RunsTo old new commands text
finish old new commands i text run all = subst (λ (cs : List Command). RunsTo old new cs text) (take_all i commands all) run.so_far

-- the command that asks the table, with those before and behind it
pub asks_table : (old new : PlainTable) (commands : List Command) (i : ℕ) (text : List ℕ) (c : TableCommand) → Running old new commands i text → i < length commands → Table c ≡ get_or commands i (Table c) → AsksTableAt commands (i + 1)
asks_table old new commands i text c run lt at = record {
  before = take i commands;
  command = c;
  behind = drop (i + 1) commands;
  is =
      sym (take-append-drop i commands)
      ∙ ap (λ (rest : List Command). take i commands ++ rest) (rw (add-one, drop-cons commands i (Table c)) (ap (λ (x : Command). x ∷ drop (suc i) commands) (sym at)));
  mapped = run.so_far.mapped;
  counted = omega (arith, length-take i commands);
}

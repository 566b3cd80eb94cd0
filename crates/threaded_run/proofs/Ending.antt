-- The end of a run: every worker's record at one log.
use Rattle.std.proofs.Common.{◌≡◌, ◌≢◌, ℕ, suc, ◌<◌, ◌==◌, Bool, true, false, IsTrue, List, [], ◌∷◌, ◌++◌, Option, Some, None, Result, Ok, Err, OnOk, IfErr, length, map, refl, ap, sym, ◌∙◌, subst, arith}
use Rattle.std.specs.Prelude.{codes}
use Rattle.std.specs.List.{AllByRecursion}
use Rattle.far_object.specs.Encodings.{enc_text}
use Rattle.table_core.specs.declared.limits.Limits.{Limits}
use Rattle.table_core.specs.Maps.{map_of}
use Rattle.table_core.specs.Logs.{history}
use Rattle.command_file.specs.declared.command.Command.{Command}
use Rattle.version_words.specs.Views.{IsWhole, AreNone}
use Rattle.version_words.specs.Views.{AreApart as AreApartViews}
use Rattle.run_lines.specs.Calls.{Texts, calls_by}
use Rattle.run_lines.specs.Replies.{RepliedIn}
use Rattle.run_lines.specs.Output.{written, pair_line, file_lines, file_texts, output}
use Rattle.run_lines.specs.Runs.{Worked, AreApart, Ran}
use Rattle.run_lines.proofs.Replying.{replied_later}
use Rattle.run_lines.proofs.Texts.{texts_are_lines}
use Rattle.threaded_run.specs.Replies.{View, Log, MayReply}
use Rattle.threaded_run.specs.declared.fault.ThreadedFault.{ThreadedFault}
use Rattle.threaded_run.specs.declared.fault.ThreadedFault.TheVariants as fault
use Rattle.std.specs.Global.{Vec}
use Rattle.std.specs.Io.KnownBytes.{Appends}
use Rattle.far_pairs.specs.Bundles.{all_of}
use Rattle.version_words.specs.Rows.{limits_of}
use Rattle.hash_table.specs.Configs.{sizes_of}
use Rattle.hash_table.specs.declared.config.Config.{Config}
use Rattle.far_map.specs.declared.fault.MapFault.{MapFault}
use Rattle.far_map.specs.Runs.{IsEnd, EndsBundled}
use Rattle.threaded_run.specs.Ends.{Collected, Writes}
use Rattle.threaded_run.proofs.Working.{Lines, Gives, worked_all}
use Rattle.threaded_run.specs.Runs.{Served, IsServed, AreGiven, WorkedAll, AreLines, IsEarly, EndsAt, WritesBefore}
use Rattle.threaded_run.proofs.Stepping.{history_grows}

abbrev worked : Served → Worked
worked s = record { pass = s.pass.number; commands = s.commands; lines = s.lines }

-- ---- numbers that differ

none_here : (pass : View) (all : List Served) → AreNone pass (map (λ s. s.pass) all) → AllByRecursion (λ q. pass.number ≢ q) (map (λ w. w.pass) (map worked all))
none_here pass [] h = tt
none_here pass (s ∷ all) h = (h.0, none_here pass all h.1)

apart_here : (all : List Served) → AreApartViews (map (λ s. s.pass) all) → AreApart (map (λ w. w.pass) (map worked all))
apart_here [] h = tt
apart_here (s ∷ all) h = (none_here s.pass all h.0, apart_here all h.1)

-- a number that is none of the files'
none_of : (p : ℕ) (all : List Served) → AllByRecursion (λ w. w.pass ≢ p) (map worked all) → AreNone (record { front = []; number = p }) (map (λ s. s.pass) all)
none_of p [] h = tt
none_of p (s ∷ all) h = (λ is. h.0 (sym is), none_of p all h.1)

-- ---- all passes at one log

module _ (l : Limits) (limit : ℕ) (honest : IsTrue l.honest) (log : Log) where
  here : (all : List Served) → AllByRecursion (λ (pass : View). IsWhole log pass) (map (λ s. s.pass) all) → AllByRecursion (IsServed l limit) all
      → AllByRecursion (λ w. RepliedIn (MayReply l.buckets limit) (history log) w.pass w.commands w.lines) (map worked all)
  here [] whole r = tt
  here (s ∷ all) whole r =
      let w = whole.0 in (
        (let own = r.0.replied honest in (own.0, replied_later (MayReply l.buckets limit) (history s.pass.front) (history log) s.pass.number [] None s.commands s.lines own.0 (history_grows s.pass.front log w.seen) w.all own.1)),
        here all whole.1 r.1,
      )

-- ---- lists of files

files_of : (all : List Served) → map (λ w. w.commands) (map worked all) ≡ map (λ s. s.commands) all
files_of [] = refl
files_of (s ∷ all) = ap (λ (cs : List (List Command)). s.commands ∷ cs) (files_of all)

lines_of_all : (all : List Served) → map (λ w. w.lines) (map worked all) ≡ map (λ s. s.lines) all
lines_of_all [] = refl
lines_of_all (s ∷ all) = ap (λ (ls : List (List (List ℕ))). s.lines ∷ ls) (lines_of_all all)

texts_of_all : (all : List Served) → map (λ s. written s.lines) all ≡ map written (map (λ s. s.lines) all)
texts_of_all [] = refl
texts_of_all (s ∷ all) = ap (λ (ts : List (List ℕ)). written s.lines ∷ ts) (texts_of_all all)

counts : (l : Limits) (limit : ℕ) (all : List Served) → AllByRecursion (IsServed l limit) all → map (λ ls. length ls) (map (λ s. s.lines) all) ≡ map (λ c. length c) (map (λ s. s.commands) all)
counts l limit [] h = refl
counts l limit (s ∷ all) h =
    ap (λ (n : ℕ). n ∷ map (λ ls. length ls) (map (λ s. s.lines) all)) h.0.count ∙ ap (λ (ns : List ℕ). length s.commands ∷ ns) (counts l limit all h.1)

pub ran : (l : Limits) (limit : ℕ) (files : List (List Command)) (passes : List View) (texts : List (List ℕ)) (pairs : Texts) → WorkedAll l limit files passes texts → IsEnd enc_text l passes pairs → IsTrue l.honest
    → Ran (MayReply l.buckets limit) files (file_texts 1 texts ++ written (codes "contents" ∷ map pair_line pairs))
ran l limit files passes texts pairs w end honest = record {
  calls = history end.log;
  all = map worked w.all;
  files_are = files_of w.all ∙ w.files_are;
  apart = apart_here w.all (subst AreApartViews (sym w.passes_are) end.apart);
  replied = here l limit honest end.log w.all (subst (λ (ps : List View). AllByRecursion (λ (pass : View). IsWhole end.log pass) ps) (sym w.passes_are) end.whole) w.served;
  others = λ p apart. end.no_other (record { front = []; number = p }) (subst (λ (ps : List View). AreNone (record { front = []; number = p }) ps) w.passes_are (none_of p w.all apart));
  text_is =
      ap (λ (z : List ℕ). z ++ written (codes "contents" ∷ map pair_line pairs))
      (ap (file_texts 1) (sym w.texts_are ∙ texts_of_all w.all) ∙ (texts_are_lines 1 (map (λ s. s.lines) w.all)))
      ∙ (ap (λ (m : Texts). written (file_lines 1 (map (λ s. s.lines) w.all)) ++ written (codes "contents" ∷ map pair_line m)) (end.pairs_are honest)
      ∙ ap (λ (ls : List (List (List ℕ))). output ls (map_of enc_text enc_text (history end.log))) (sym (lines_of_all w.all)));
}

-- the texts before the contents are the files' lines
pub lines_before : (l : Limits) (limit : ℕ) (files : List (List Command)) (passes : List View) (texts : List (List ℕ)) → WorkedAll l limit files passes texts → AreLines files (file_texts 1 texts)
lines_before l limit files passes texts w = record {
  lines = map (λ s. s.lines) w.all;
  count = counts l limit w.all w.served ∙ ap (λ (cs : List (List Command)). map (λ c. length c) cs) w.files_are;
  is = ap (file_texts 1) (sym w.texts_are ∙ texts_of_all w.all) ∙ texts_are_lines 1 (map (λ s. s.lines) w.all);
}

-- ---- a run of a map whose workers give lines

module _ (honest : Bool) (config back : Config) (limit count : ℕ) (files scripts : List (List Command)) (outs : List Lines) (texts : List (List ℕ)) (end : Result (Vec Texts) MapFault)
    (same : back ≡ config) (same_limit : limit ≡ config.limit) (same_count : count ≡ length files) (same_files : scripts ≡ files) (given : AreGiven outs texts) where
  abbrev l : Limits
  l = limits_of (sizes_of config) honest

  abbrev Ends : Type 0
  Ends = EndsBundled enc_text (λ worker l begun ended (out : Lines). Gives scripts worker l begun ended out) (limits_of (sizes_of back) honest) limit count outs end

  abbrev EndsHere : Result (Vec Texts) MapFault → Type 0
  EndsHere e = EndsBundled enc_text (λ worker l begun ended (out : Lines). Gives files worker l begun ended out) l config.limit (length files) outs e

  ends_here : Ends → EndsHere end
  ends_here h =
      subst (λ (fs : List (List Command)). EndsBundled enc_text (λ worker l begun ended (out : Lines). Gives fs worker l begun ended out) l config.limit (length files) outs end) same_files
      (subst (λ (n : ℕ). EndsBundled enc_text (λ worker l begun ended (out : Lines). Gives scripts worker l begun ended out) l config.limit n outs end) same_count
      (subst (λ (n : ℕ). EndsBundled enc_text (λ worker l begun ended (out : Lines). Gives scripts worker l begun ended out) l n count outs end) same_limit
      (subst (λ (k : Config). EndsBundled enc_text (λ worker l begun ended (out : Lines). Gives scripts worker l begun ended out) (limits_of (sizes_of k) honest) limit count outs end) same h)))

  lines_here : (e : Result (Vec Texts) MapFault) → EndsHere e → AreLines files (file_texts 1 texts)
  lines_here (Ok bundles) h = lines_before l config.limit files h.passes texts (worked_all l config.limit files h.passes outs texts h.worked given)
  lines_here (Err fault) h = let w = h.0 in lines_before l config.limit files w.passes texts (worked_all l config.limit files w.passes outs texts w.worked given)

  pub lines_of_files : Ends → AreLines files (file_texts 1 texts)
  lines_of_files h = lines_here end (ends_here h)

  ran_here : (e : Result (Vec Texts) MapFault) (old new : Option (List ℕ)) → EndsHere e → IsTrue honest → Collected e (λ bundles. Writes (all_of bundles.items) old new (file_texts 1 texts))
      → (text : List ℕ) × Ran (MayReply config.buckets config.limit) files text × Appends old new text
  ran_here (Ok bundles) old new h is_honest w =
      let are = w.are in (
        file_texts 1 texts ++ written (codes "contents" ∷ map pair_line are.all),
        ran l config.limit files h.passes texts are.all (worked_all l config.limit files h.passes outs texts h.worked given) (h.ended are.all are.same are.rising) is_honest,
        subst (λ (z : List ℕ). Appends old new (file_texts 1 texts ++ (codes "contents" ++ 10 ∷ z))) are.are w.wrote,
      )
  ran_here (Err fault) old new h is_honest w = absurd w

  pub ran_files : (old new : Option (List ℕ)) → Ends → IsTrue honest → Collected end (λ bundles. Writes (all_of bundles.items) old new (file_texts 1 texts))
      → (text : List ℕ) × Ran (MayReply config.buckets config.limit) files text × Appends old new text
  ran_files old new h is_honest w = ran_here end old new (ends_here h) is_honest w

-- ---- the answer of a run by that of its end

pub always : {T E : Type 0} (r : Result T E) (P : Type 0) → P → OnOk r P
always (Ok done) P p = p
always (Err e) P p = tt

pub ended : {T E : Type 0} (r : Result T E) (P Q : Type 0) → (P → Q) → OnOk r P → OnOk r Q
ended (Ok done) P Q f h = f h
ended (Err e) P Q f h = tt

-- the fault of the end, where that is so of each
pub faulted : {T E : Type 0} (r : Result T E) (P Q : E → Type 0) → ((e : E) → P e → Q e) → IfErr r P → IfErr r Q
faulted (Ok done) P Q f h = tt
faulted (Err e) P Q f h = f e h

fault_after : (files : List (List Command)) (old new : Option (List ℕ)) (text : List ℕ) (e : ThreadedFault) → AreLines files text → EndsAt old new text e → WritesBefore files old new e
fault_after files old new text fault.Memory lines h = absurd h
fault_after files old new text fault.Device lines h = absurd h
fault_after files old new text fault.Passes lines h = h
fault_after files old new text fault.Gate lines h = absurd h
fault_after files old new text fault.Write lines h = tt
fault_after files old new text (fault.Contents r) lines h = (text, lines, h)

pub before : {T : Type 0} (r : Result T ThreadedFault) (files : List (List Command)) (old new : Option (List ℕ)) (text : List ℕ) → AreLines files text → IfErr r (EndsAt old new text) → IfErr r (WritesBefore files old new)
before (Ok done) files old new text lines h = tt
before (Err e) files old new text lines h = fault_after files old new text e lines h

-- a fault that comes before anything is written
pub kept : (files : List (List Command)) (old : Option (List ℕ)) (e : ThreadedFault) → IsEarly e → WritesBefore files old old e
kept files None fault.Memory early = tt
kept files None fault.Device early = tt
kept files None fault.Passes early = tt
kept files None fault.Gate early = tt
kept files (Some xs) fault.Memory early = refl
kept files (Some xs) fault.Device early = refl
kept files (Some xs) fault.Passes early = refl
kept files (Some xs) fault.Gate early = refl
kept files old fault.Write early = absurd early
kept files old (fault.Contents r) early = absurd early

-- A worker, one command after another, and all workers of a run.
use Rattle.std.proofs.Common.{◌≡◌, ℕ, zero, suc, ◌+◌, ◌<◌, ◌≤◌, IsTrue, Option, None, Result, Ok, Err, IfOk, List, [], ◌∷◌, ◌++◌, length, take, get_or, map, refl, ap, sym, ◌∙◌, subst, arith, add-one, length-append}
use Rattle.std.specs.Prelude.{slice_index_or}
use Rattle.std.specs.Global.{Vec}
use Rattle.std.proofs.lemmas.List.{take_all, map-append}
use Rattle.std.proofs.Math.Seq.{take-suc}
use Rattle.table_core.specs.declared.limits.Limits.{Limits}
use Rattle.table_core.specs.Logs.{history}
use Rattle.version_words.specs.Views.{calls, calls_of, Goes}
use Rattle.command_file.specs.declared.command.Command.{Command}
use Rattle.run_lines.specs.Replies.{RepliedFrom}
use Rattle.run_lines.specs.Output.{written}
use Rattle.run_lines.proofs.Replying.{replied_later, replied_more}
use Rattle.run_lines.proofs.Written.{written-more}
use Rattle.far_map.specs.Views.{SessionView}
use Rattle.far_map.specs.Runs.{Served, AreServed, Worked}
use Rattle.threaded_run.specs.declared.work_fault.WorkFault.{WorkFault}
use Rattle.threaded_run.specs.declared.work_fault.WorkFault.TheVariants as work
use Rattle.threaded_run.specs.Replies.{View, MayReply, RunsTo, RunsOn}
use Rattle.threaded_run.specs.Runs.{Served as FileRun}
use Rattle.threaded_run.specs.Runs.{EndedView, IsServed, EndedIs, AreGiven, HaveLines, WorkedAll}
use Rattle.threaded_run.proofs.Stepping.{history_grows, stays, step}

taken : {A : Type 0} (xs : List A) (i : ℕ) (x : A) → i < length xs → x ≡ get_or xs i x → take (i + 1) xs ≡ take i xs ++ x ∷ []
taken xs i x lt at = rw add-one (take-suc xs i x lt) ∙ ap (λ y. take i xs ++ y ∷ []) (sym at)

module _ (l : Limits) (limit : ℕ) where
  -- i commands have been run, and behind them this value is held
  pub record Working (old now : View) (held : Option (List ℕ)) (commands : List Command) (i : ℕ) (text : List ℕ) : Type 0 where
    pub number : now.number ≡ old.number
    pub lines : List (List ℕ)
    pub text_is : text ≡ written lines
    pub count : length lines ≡ length (take i commands)
    pub replied : IsTrue l.honest → RepliedFrom (MayReply l.buckets limit) (history now.front) now.number [] None (take i commands) lines held

  pub start : (old : View) (held : Option (List ℕ)) (commands : List Command) (text : List ℕ) → text ≡ [] → calls old ≡ [] → held ≡ None → Working old old held commands 0 text
  start old held commands text none new unheld = record { number = refl; lines = []; text_is = none; count = refl; replied = λ _. (new, unheld) }

  pub next : (old now new : View) (held later : Option (List ℕ)) (commands : List Command) (i : ℕ) (text more : List ℕ) (c : Command) (line : List ℕ)
      → Working old now held commands i text → i < length commands → c ≡ get_or commands i c → RunsTo l limit now new held later c line → more ≡ text ++ (line ++ 10 ∷ []) → Working old new later commands (i + 1) more
  next old now new held later commands i text more c line w lt at ran is =
      let s = stays l limit now new held later c line ran in
      let cs : take (i + 1) commands ≡ take i commands ++ c ∷ [] = taken commands i c lt at in
      record {
        number = s.0 ∙ w.number;
        lines = w.lines ++ line ∷ [];
        text_is = is ∙ (ap (λ (z : List ℕ). z ++ (line ++ 10 ∷ [])) w.text_is ∙ sym (written-more w.lines line));
        count = omega (arith, w.count, ap length cs, length-append w.lines (line ∷ []), length-append (take i commands) (c ∷ []));
        replied = λ honest.
            rw (cs, s.0)
            (replied_more (MayReply l.buckets limit) (history now.front) (history new.front) now.number [] None (take i commands) w.lines held c line later (history_grows now.front new.front s.1) (w.replied honest) (step l limit honest now new held later c line ran));
      }

  -- the pass has seen more, and made no call
  pub seen_more : (old now new : View) (held : Option (List ℕ)) (commands : List Command) (i : ℕ) (text : List ℕ) → Working old now held commands i text → Goes now new → Working old new held commands i text
  seen_more old now new held commands i text w goes = record {
    number = goes.number ∙ w.number;
    lines = w.lines;
    text_is = w.text_is;
    count = w.count;
    replied = λ honest.
        rw goes.number
        (replied_later (MayReply l.buckets limit) (history now.front) (history new.front) now.number [] None (take i commands) w.lines held (history_grows now.front new.front goes.grows) (ap (λ (q : ℕ). calls_of q new.front) (sym goes.number) ∙ goes.calls_stay) (w.replied honest));
  }

  pub finish : (old now : View) (held : Option (List ℕ)) (commands : List Command) (i : ℕ) (text : List ℕ) → Working old now held commands i text → length commands ≤ i → EndedIs l limit old commands (record { pass = now; text = text })
  finish old now held commands i text w all =
      subst (λ (cs : List Command). EndedIs l limit old cs (record { pass = now; text = text })) (take_all i commands all) (record {
        number = w.number;
        lines = w.lines;
        text_is = w.text_is;
        served = record { count = w.count; replied = λ honest. (held, w.replied honest) };
      })

  -- a command that was run, and behind which the pass went on
  pub next_on : (old now new : View) (held later : Option (List ℕ)) (commands : List Command) (i : ℕ) (text more : List ℕ) (c : Command) (line : List ℕ)
      → Working old now held commands i text → i < length commands → c ≡ get_or commands i c → RunsOn l limit now new held later c line → more ≡ text ++ (line ++ 10 ∷ []) → Working old new later commands (i + 1) more
  next_on old now new held later commands i text more c line w lt at ran is =
      seen_more old ran.front new later commands (i + 1) more (next old now ran.front held later commands i text more c line w lt at ran.runs is) ran.goes

  -- no command was run
  pub idle : (old : View) (text : List ℕ) → text ≡ [] → calls old ≡ [] → EndedIs l limit old [] (record { pass = old; text = text })
  idle old text none new = finish old old None [] 0 text (start old None [] text none new refl) (omega arith)

-- past the last file there is none
pub past_end : (files : List (List Command)) (i : ℕ) → length files ≤ i → slice_index_or files i [] ≡ []
past_end [] i past = refl
past_end (c ∷ files) zero past = absurd (omega (arith, past))
past_end (c ∷ files) (suc i) past = past_end files i (omega (arith, past))

-- ---- the workers

abbrev pub Lines : Type 0
Lines = Result (Vec ℕ) WorkFault

-- the worker's lines, where there are some, are its file's
abbrev pub Gives : List (List Command) → ℕ → Limits → SessionView (List ℕ) → SessionView (List ℕ) → Lines → Type 0
Gives files worker l begun ended out = IfOk out (λ lines. EndedIs l begun.limit begun.pass (slice_index_or files worker []) (record { pass = ended.pass; text = lines.items }))

lines_front : (outs : List Lines) (last : Lines) → HaveLines (outs ++ last ∷ []) → HaveLines outs
lines_front [] last h = tt
lines_front (Ok lines ∷ outs) last h = lines_front outs last h
lines_front (Err e ∷ outs) last h = absurd h

lines_last : (outs : List Lines) (last : Lines) → HaveLines (outs ++ last ∷ []) → HaveLines (last ∷ [])
lines_last [] last h = h
lines_last (Ok lines ∷ outs) last h = lines_last outs last h
lines_last (Err e ∷ outs) last h = absurd h

pub have_front : (outs all : List Lines) (last : Lines) → all ≡ outs ++ last ∷ [] → HaveLines all → HaveLines outs
have_front outs all last is h = lines_front outs last (subst (λ (os : List Lines). HaveLines os) is h)

pub have_last : (outs all : List Lines) (last : Lines) → all ≡ outs ++ last ∷ [] → HaveLines all → HaveLines (last ∷ [])
have_last outs all last is h = lines_last outs last (subst (λ (os : List Lines). HaveLines os) is h)

more : (outs : List Lines) (texts : List (List ℕ)) (lines : Vec ℕ) → AreGiven outs texts → AreGiven (outs ++ Ok lines ∷ []) (texts ++ lines.items ∷ [])
more [] texts lines h = ([], ap (λ (ts : List (List ℕ)). ts ++ lines.items ∷ []) h, refl)
more (Ok first ∷ outs) texts lines h = (h.0 ++ lines.items ∷ [], ap (λ (ts : List (List ℕ)). ts ++ lines.items ∷ []) h.1, more outs h.0 lines h.2)
more (Err e ∷ outs) texts lines h = absurd h

pub mapped : (new old : List (Vec ℕ)) (lines : Vec ℕ) → new ≡ old ++ lines ∷ [] → map (λ t. t.items) new ≡ map (λ t. t.items) old ++ lines.items ∷ []
mapped new old lines is = ap (λ (ts : List (Vec ℕ)). map (λ t. t.items) ts) is ∙ map-append (λ (t : Vec ℕ). t.items) old (lines ∷ [])

pub given_here : (outs all : List Lines) (texts given : List (List ℕ)) (lines : Vec ℕ) → all ≡ outs ++ Ok lines ∷ [] → given ≡ texts ++ lines.items ∷ [] → AreGiven outs texts → AreGiven all given
given_here outs all texts given lines is made h =
    subst (λ (os : List Lines). AreGiven os given) (sym is) (subst (λ (ts : List (List ℕ)). AreGiven (outs ++ Ok lines ∷ []) ts) (sym made) (more outs texts lines h))

module _ (l : Limits) (limit : ℕ) (files : List (List Command)) where
  -- the files from this one on
  abbrev Here : ℕ → List (List Command) → Type 0
  Here n rest = (k : ℕ) → k < length rest → slice_index_or files (n + k) [] ≡ slice_index_or rest k []

  here_tail : (n : ℕ) (c : List Command) (rest : List (List Command)) → Here n (c ∷ rest) → Here (n + 1) rest
  here_tail n c rest h k lt =
      let same : n + suc k ≡ n + 1 + k = omega arith in
      subst (λ (m : ℕ). slice_index_or files m [] ≡ slice_index_or rest k []) same (h (suc k) (omega (arith, lt)))

  all_given : (n : ℕ) (rest : List (List Command)) (served : List (Served (List ℕ) Lines)) (texts : List (List ℕ)) → Here n rest → length served ≡ length rest
      → AreServed (λ worker begun ended out. Gives files worker l begun ended out) limit n served → AreGiven (map (λ s. s.out) served) texts → WorkedAll l limit rest (map (λ s. s.ended.pass) served) texts
  all_given n [] [] texts here count all given = record { all = []; files_are = refl; passes_are = refl; texts_are = sym given; served = tt }
  all_given n [] (s ∷ served) texts here count all given = absurd (omega (arith, count))
  all_given n (c ∷ rest) [] texts here count all given = absurd (omega (arith, count))
  all_given n (c ∷ rest) (s ∷ served) texts here count all given = by (λ ts g. all_given (n + 1) rest served ts (here_tail n c rest here) (omega (arith, count)) all.3 g) s.out refl
    where
      by : ((ts : List (List ℕ)) → AreGiven (map (λ s. s.out) served) ts → WorkedAll l limit rest (map (λ s. s.ended.pass) served) ts) → (out : Lines) → s.out ≡ out
          → WorkedAll l limit (c ∷ rest) (map (λ s. s.ended.pass) (s ∷ served)) texts
      by behind (Ok lines) is =
          let g = subst (λ (o : Lines). AreGiven (o ∷ map (λ s. s.out) served) texts) is given in
          let e = subst (λ (o : Lines). Gives files s.worker l s.begun s.ended o) is all.2 in
          let place : s.worker ≡ n + 0 = omega (arith, all.0) in
          let new = all.1 in
          let own : EndedIs l limit s.begun.pass c (record { pass = s.ended.pass; text = lines.items }) =
          subst (λ (cs : List Command). EndedIs l limit s.begun.pass cs (record { pass = s.ended.pass; text = lines.items }))
          (ap (λ (m : ℕ). slice_index_or files m []) place ∙ here 0 (omega arith))
          (subst (λ (m : ℕ). EndedIs l m s.begun.pass (slice_index_or files s.worker []) (record { pass = s.ended.pass; text = lines.items })) new.limit_is e) in
          let others = behind g.0 g.2 in
          let one : FileRun = record { pass = s.ended.pass; commands = c; lines = own.lines } in
          record {
            all = one ∷ others.all;
            files_are = ap (λ (cs : List (List Command)). c ∷ cs) others.files_are;
            passes_are = ap (λ (ps : List View). s.ended.pass ∷ ps) others.passes_are;
            texts_are = ap (λ (ts : List (List ℕ)). written own.lines ∷ ts) others.texts_are ∙ (ap (λ (t : List ℕ). t ∷ g.0) (sym own.text_is) ∙ sym g.1);
            served = (own.served, others.served);
          }
      by behind (Err e) is = absurd (subst (λ (o : Lines). AreGiven (o ∷ map (λ s. s.out) served) texts) is given)

  first_here : (k : ℕ) → slice_index_or files (0 + k) [] ≡ slice_index_or files k []
  first_here k = let same : 0 + k ≡ k = omega arith in ap (λ (m : ℕ). slice_index_or files m []) same

  -- all files were run, where all workers gave lines
  pub worked_all : (passes : List View) (outs : List Lines) (texts : List (List ℕ)) → Worked (λ worker begun ended out. Gives files worker l begun ended out) limit (length files) passes outs → AreGiven outs texts
      → WorkedAll l limit files passes texts
  worked_all passes outs texts w given =
      subst (λ (ps : List View). WorkedAll l limit files ps texts) w.passes_are
      (all_given 0 files w.all texts (λ k lt. first_here k) w.count_is w.served (subst (λ (os : List Lines). AreGiven os texts) (sym w.outs_are) given))

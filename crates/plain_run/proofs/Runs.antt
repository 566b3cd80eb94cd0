-- A run that went through.
use Rattle.std.proofs.Common.{◌≡◌, ℕ, List, [], ◌∷◌, ◌++◌, Option, Some, None, IfSome, map, refl, ap, ◌∙◌, subst}
use Rattle.std.specs.Prelude.{codes}
use Rattle.std.specs.Io.KnownBytes.{Appends}
use Rattle.far_object.specs.Encodings.{enc_text}
use Rattle.table_core.specs.Maps.{map_of}
use Rattle.table_core.specs.Logs.{history}
use Rattle.table_core.specs.Machines.{buckets_of}
use Rattle.command_file.specs.declared.command.Command.{Command}
use Rattle.command_file.specs.Lines.{lines_of}
use Rattle.command_file.specs.Files.{IsFile}
use Rattle.run_lines.specs.Calls.{Texts}
use Rattle.run_lines.specs.Output.{written, pair_line, file_texts}
use Rattle.run_lines.proofs.Calls.{calls_by-other}
use Rattle.run_lines.proofs.Texts.{texts_are_lines}
use Rattle.plain_run.specs.declared.table.PlainTable.{PlainTable}
use Rattle.plain_run.specs.Tables.{Log, IsAt}
use Rattle.plain_run.specs.Runs.{PlainRan, RunsTo}

-- the contents behind the lines
abbrev pub ended : List ℕ → Texts → List ℕ
ended text contents = file_texts 1 (text ∷ []) ++ written (codes "contents" ∷ map pair_line contents)

plain_ran : (bytes : List ℕ) (commands : List Command) (old new : PlainTable) (text : List ℕ) → IsFile (lines_of bytes) commands → (run : RunsTo old new commands text)
    → PlainRan (buckets_of old.machine) old.limit bytes (ended text (map_of enc_text enc_text (history run.log)))
plain_ran bytes commands old new text file run = record {
  commands = commands;
  file = file;
  mapped = run.mapped;
  ran = record {
    calls = history run.log;
    all = record { pass = 1; commands = commands; lines = run.lines } ∷ [];
    files_are = refl;
    apart = (tt, tt);
    replied = (run.replied, tt);
    others = λ p other. calls_by-other 1 p (history run.log) run.own other.0;
    text_is =
        ap (λ (x : List ℕ). ended x (map_of enc_text enc_text (history run.log))) run.text_is
        ∙ ap (λ (x : List ℕ). x ++ written (codes "contents" ∷ map pair_line (map_of enc_text enc_text (history run.log)))) (texts_are_lines 1 (run.lines ∷ []));
  };
}

pub ran : (buckets limit : ℕ) (known : Option (List ℕ)) (commands : List Command) (old new : PlainTable) (text : List ℕ) (a b : Option (List ℕ))
    → IfSome known (λ bytes. IsFile (lines_of bytes) commands) → RunsTo old new commands text → buckets_of old.machine ≡ buckets → old.limit ≡ limit
    → ((log : Log) → IsAt new log → Appends a b (ended text (map_of enc_text enc_text (history log))))
    → IfSome known (λ bytes. (out : List ℕ) × PlainRan buckets limit bytes out × Appends a b out)
ran buckets limit None commands old new text a b file run buckets_are limit_is wrote = tt
ran buckets limit (Some bytes) commands old new text a b file run buckets_are limit_is wrote =
    let out : List ℕ = ended text (map_of enc_text enc_text (history run.log)) in (
      out,
      subst (λ (l : ℕ). PlainRan buckets l bytes out) limit_is (subst (λ (n : ℕ). PlainRan n old.limit bytes out) buckets_are (plain_ran bytes commands old new text file run)),
      wrote run.log run.stands,
    )

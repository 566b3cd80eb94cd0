-- What the code's answers stand for.
use Rattle.std.specs.Prelude.{◌≡◌, ℕ, List, ◌++◌, codes, Option, Some, None}
use Rattle.std.specs.Fmt.{signed_decimal}
use Rattle.resp.specs.Replies.{Token, token, Simple, Failure, Number, String, Nothing}
use Rattle.key_commands.specs.declared.key_command.Effect.{Effect}
use Rattle.key_commands.specs.declared.value.Live.{Live}
use Rattle.key_commands.specs.declared.answer.Line.{Line}
use Rattle.key_commands.specs.declared.answer.Line.TheVariants as lines
use Rattle.key_commands.specs.declared.answer.CommandRefusal.{CommandRefusal}
use Rattle.key_commands.specs.declared.answer.CommandRefusal.TheVariants as refusals
use Rattle.key_commands.specs.declared.answer.Reply.{Reply}
use Rattle.key_commands.specs.declared.answer.Reply.TheVariants as answers
use Rattle.key_commands.specs.declared.answer.Bytes.{Bytes}
use Rattle.key_commands.specs.declared.answer.Bytes.TheVariants as forms
use Rattle.key_commands.specs.declared.answer.Fate.{Fate}
use Rattle.key_commands.specs.declared.answer.Fate.TheVariants as fates
use Rattle.key_commands.specs.declared.answer.Answer.{Answer}
use Rattle.key_commands.specs.Values.{Value}
use Rattle.key_commands.specs.Outcomes.{After, Stays, Becomes, Goes, Outcome, IsEffect, too_long}
use Rattle.key_commands.specs.Editing.{over}
use Rattle.key_commands.specs.Adding.{no_whole_number, overflow, no_float, no_finite_sum}

abbrev pub seen : Option Live → Option Value
seen None = None
seen (Some l) = Some (record { deadline = l.deadline; bytes = l.bytes.now })

abbrev pub line_text : Line → List ℕ
line_text lines.Ok = codes "OK"
line_text lines.String = codes "string"
line_text lines.None = codes "none"

abbrev pub refusal_text : CommandRefusal → List ℕ
refusal_text refusals.TooLong = too_long
refusal_text refusals.NotWhole = no_whole_number
refusal_text refusals.Overflow = overflow
refusal_text refusals.NotFloat = no_float
refusal_text refusals.NotFinite = no_finite_sum

abbrev pub said : Reply → Token
said answers.Nothing = Nothing
said (answers.Number n) = Number n
said (answers.String bytes) = String bytes.now
said (answers.Line line) = Simple (line_text line)
said (answers.Failure refusal) = Failure (refusal_text refusal)

abbrev pub written : Bytes → List ℕ
written (forms.Given bytes) = bytes.now
written (forms.Joined front behind) = front.now ++ behind.now
written (forms.Over old offset new) = over offset new.now old.now
written (forms.Spelled n) = signed_decimal n

abbrev pub after_of : Fate → After
after_of fates.Stays = Stays
after_of (fates.Becomes deadline bytes) = Becomes (record { deadline = deadline; bytes = written bytes })
after_of fates.Goes = Goes

abbrev pub outcome_of : Answer → Outcome
outcome_of answer = record { reply = said answer.reply; after = after_of answer.fate }

-- the effect is the outcome's, with these stored bytes where the key is set, and the reply was put behind what was there
pub record Performs (o : Outcome) (effect : Effect) (bytes before after : List ℕ) : Type 0 where
  pub changed : IsEffect o.after effect bytes
  pub replied : after ≡ before ++ token o.reply

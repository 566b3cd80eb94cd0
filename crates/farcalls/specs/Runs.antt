-- What the program did, from the bytes of its pipes.
use Rattle.std.specs.Prelude.{◌≡◌, ℕ, Bool, true, false, IsTrue, List, [], ◌∷◌, All}
use Rattle.std.specs.Io.Buffered.{reader_remaining, writer_contents}
use Rattle.std.specs.declared.alloc.Global.{Global}
use Rattle.std.specs.declared.fs.File.{File}
use Rattle.std.specs.declared.io.buffered.BufReader.{BufReader}
use Rattle.std.specs.declared.io.buffered.BufWriter.{BufWriter}
use Rattle.version_words.specs.Rows.{limits_of}
use Rattle.hash_table.specs.Configs.{sizes_of}
use Rattle.far_blob.specs.Encodings.{enc_blob}
use Rattle.far_map.specs.Settings.{config_of}
use Rattle.far_map.specs.Generations.{IsRenewed}
use Rattle.digests.specs.Collisions.{nothing_collided}
use Rattle.streams.specs.declared.reader.StreamReader.{StreamReader}
use Rattle.streams.specs.declared.writer.StreamWriter.{StreamWriter}
use Rattle.streams.specs.Ends.{still_to_read, written_by, IsUnread, IsUnwritten}
use Rattle.farcalls.specs.Serving.{ServesOn, all_fresh, all_ended}
use Rattle.farcalls.specs.declared.command_line.CommandLine.{CommandLine}
use Rattle.farcalls.specs.declared.session_run.SessionSettings.{SessionSettings}
use Rattle.farcalls.specs.declared.session_end.SessionEnd.{SessionEnd}
use Rattle.farcalls.specs.declared.session_end.SessionEnd.TheVariants as session_end

-- a session's pipe of requests, and its pipe of replies
abbrev pub Requests : Type 0
Requests = BufReader (StreamReader File) Global

abbrev pub Replies : Type 0
Replies = BufWriter (StreamWriter File) Global

abbrev pub End : Type 0
End = SessionEnd Requests Replies

-- whether a session served until its requests were at their end
abbrev pub is_served : End → Bool
is_served (session_end.Served requests replies) = true
is_served (session_end.Failed why) = false

-- The terms of all sessions, from one map to the next, end so. Where none is lost, each map begins with all that the one before it left.
abbrev pub AreTerms : SessionSettings → ℕ → Bool → List End → ℕ → Type 0
AreTerms settings devices honest ends lost = IsRenewed enc_blob (λ session l begun ended before after. ServesOn (reader_remaining still_to_read) (writer_contents written_by) (λ requests replies. IsUnread session requests × IsUnwritten session replies) l settings.is_far begun ended before after) (limits_of (sizes_of (config_of settings.map devices)) honest) settings.map.limit (all_fresh settings.sessions) (all_ended ends) lost

-- The program ran over so many devices, which were honest or not, until each session had read its pipe of requests to the end. The pipes of the
-- session with number n are those with this number: it read the first bytes of the one, and wrote the first bytes of the other.
pub record IsServed (settings : SessionSettings) (devices : ℕ) (honest : Bool) : Type 0 where
  pub ends : List End
  pub served : All (λ end. is_served end ≡ true) ends
  pub lost : ℕ
  pub terms : AreTerms settings devices honest ends lost

abbrev pub not_empty : {A : Type 0} → List A → Bool
not_empty [] = false
not_empty (x ∷ xs) = true

-- whether objects are stored in files
abbrev pub has_folders : CommandLine → Bool
has_folders asked = not_empty asked.folders.items

-- the settings are those that the options ask for
pub record IsAskedFor (asked : CommandLine) (settings : SessionSettings) : Type 0 where
  pub sessions : settings.sessions ≡ asked.sessions
  pub is_far : settings.is_far ≡ has_folders asked

-- The program ran by the settings that the options ask for, over devices that were honest unless a digest collided.
pub record HasServed (asked : CommandLine) : Type 0 where
  pub settings : SessionSettings
  pub asked_for : IsAskedFor asked settings
  pub devices : ℕ
  pub honest : Bool
  pub unless_collided : IsTrue nothing_collided → IsTrue honest
  pub served : IsServed settings devices honest

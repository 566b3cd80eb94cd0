-- What the server did, from the bytes of its pipes.
use Rattle.std.specs.Prelude.{◌≡◌, ℕ, ◌+◌, Bool, true, false, IsTrue, List, [], ◌∷◌, ◌++◌, All, Option, Ok}
use Rattle.std.specs.Option.{is_some}
use Rattle.std.specs.Io.Buffered.{reader_remaining, writer_contents}
use Rattle.std.specs.declared.alloc.Global.{Global}
use Rattle.std.specs.declared.fs.File.{File}
use Rattle.std.specs.declared.io.buffered.BufReader.{BufReader}
use Rattle.std.specs.declared.io.buffered.BufWriter.{BufWriter}
use Rattle.version_words.specs.Rows.{limits_of}
use Rattle.hash_table.specs.Configs.{sizes_of}
use Rattle.far_blob.specs.Encodings.{enc_blob}
use Rattle.far_map.specs.Settings.{config_of}
use Rattle.far_map.specs.Generations.{IsRenewed}
use Rattle.far_server.specs.Serving.{IsTerm, all_fresh, all_ended}
use Rattle.far_server.specs.declared.settings.ServerSettings.{ServerSettings}
use Rattle.far_server.specs.declared.worker_end.WorkerEnd.{WorkerEnd}
use Rattle.far_server.specs.declared.worker_end.WorkerEnd.TheVariants as worker_end
use Rattle.digests.specs.Collisions.{nothing_collided}
use Rattle.streams.specs.declared.reader.StreamReader.{StreamReader}
use Rattle.streams.specs.declared.writer.StreamWriter.{StreamWriter}
use Rattle.streams.specs.Ends.{still_to_read, written_by, IsUnread, IsUnwritten}
use Rattle.farserve.specs.declared.command_line.CommandLine.{CommandLine}

-- a worker's pipe of requests, and its pipe of replies
abbrev pub Requests : Type 0
Requests = BufReader (StreamReader File) Global

abbrev pub Replies : Type 0
Replies = BufWriter (StreamWriter File) Global

abbrev pub End : Type 0
End = WorkerEnd Requests Replies

-- whether a worker served until its requests were at their end
abbrev pub is_served : End → Bool
is_served (worker_end.Served (Ok parts)) = true
is_served end = false

-- The terms of all workers and of the sweep, from one map to the next, end so. Where none is lost, each map begins with
-- all that the one before it left.
abbrev pub AreTerms : ServerSettings → ℕ → Bool → List End → ℕ → Type 0
AreTerms settings devices honest ends lost = IsRenewed enc_blob (λ worker l begun ended before after. IsTerm (reader_remaining still_to_read) (writer_contents written_by) (λ requests replies. IsUnread worker requests × IsUnwritten worker replies) l settings worker begun ended before after) (limits_of (sizes_of (config_of settings.map devices)) honest) settings.map.limit (all_fresh (settings.workers + 1)) (all_ended ends) lost

-- The server ran over so many devices, which were honest or not, until each worker had read its pipe of requests to the
-- end. The pipes of the worker with number n are those with this number: it read the first bytes of the one, and wrote
-- the first bytes of the other.
pub record IsServed (settings : ServerSettings) (devices : ℕ) (honest : Bool) : Type 0 where
  pub workers : List End
  pub sweep : End
  pub served : All (λ end. is_served end ≡ true) workers
  pub lost : ℕ
  pub terms : AreTerms settings devices honest (workers ++ sweep ∷ []) lost

-- the settings are those that the options ask for
pub record IsAskedFor (asked : CommandLine) (settings : ServerSettings) : Type 0 where
  pub workers : settings.workers ≡ asked.threads
  pub evicts : settings.options.evicts ≡ asked.evicts
  pub value : settings.bounds.longest_value ≡ asked.value_limit
  pub databases : settings.bounds.last_database ≡ asked.last_database
  pub memory : settings.options.most_memory ≡ asked.memory
  pub clients : settings.options.most_clients ≡ asked.most_clients
  pub password : is_some settings.password ≡ is_some asked.password_file

-- A server ran by the settings that the options ask for, over devices that were honest unless a digest collided.
pub record HasServed (asked : CommandLine) : Type 0 where
  pub settings : ServerSettings
  pub asked_for : IsAskedFor asked settings
  pub devices : ℕ
  pub honest : Bool
  pub unless_collided : IsTrue nothing_collided → IsTrue honest
  pub served : IsServed settings devices honest

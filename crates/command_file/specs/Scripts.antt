-- How a text is cut into lines.
use Rattle.std.specs.Prelude.{◌≡◌, ℕ, List, ◌∷◌, ◌++◌}
use Rattle.command_file.specs.Lines.{lines_of}

-- the bytes are a line, which may have an LF, and what stands behind it
pub record BeginsSo (bytes line behind : List ℕ) : Type 0 where
  pub feed : List ℕ
  pub is : bytes ≡ line ++ (feed ++ behind)
  pub lines : lines_of bytes ≡ line ∷ lines_of behind

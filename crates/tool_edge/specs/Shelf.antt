-- Held files as a map: the first entry of a name counts.
use Rattle.std.specs.Prelude.{List, [], ◌∷◌, None, Some, if◌then◌else◌}
use Rattle.std.specs.Str.{bytes_eq}
use Rattle.tool_edge.specs.Files.{Files}
use Rattle.tool_edge.specs.declared.shelf.HeldFile.{HeldFile}

-- what a list of held files has under each name
abbrev pub held_at : List HeldFile → Files
held_at [] other = None
held_at (file ∷ files) other = if bytes_eq file.name other then Some file.bytes.items else held_at files other

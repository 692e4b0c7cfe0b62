-- The word grammar (this project's own).
use Rattle.std.specs.Prelude.{ℕ, ◌-◌, ◌^◌, ◌==◌, nat_le, nat_lt, nat_eq, Bool, not, ◌&&◌, if◌then◌else◌, Option, Some, None, is_some, is_none, unwrap_or, List, [], ◌∷◌, length, take, drop, codes}
use Rattle.std.specs.List.{list_all, starts_with, position}
use Rattle.std.specs.Option.{option_map, option_and_then}
use Rattle.std.specs.Str.{bytes_eq}
use Rattle.prove_top.specs.Numbers.{plain_value}
use Rattle.prove_top.specs.declared.words.Command.{Command}
use Rattle.prove_top.specs.declared.words.Command.TheVariants.{Prove, Check, Replay, Map, Sample}
use Rattle.prove_top.specs.declared.words.FileNames.{FileNames}
use Rattle.prove_top.specs.declared.words.Options.{Options}
use Rattle.prove_top.specs.declared.words.Task.{Task}
use Rattle.prove_top.specs.declared.words.Task.TheVariants as tasks
use Rattle.prove_top.specs.declared.words.Work.TheVariants as work
use Rattle.prove_top.specs.declared.words.TheConstants.{OTHERS_LIMIT, BOUND_LIMIT, BUDGET_LIMIT}

-- a name has 1 to 255 bytes from `!` to `~`, and doesn't begin with `--`, as an option does
abbrev pub is_graphic : ℕ → Bool
is_graphic byte = nat_le 0x21 byte && nat_le byte 0x7E

abbrev pub all_graphic : List ℕ → Bool
all_graphic name = list_all is_graphic name

abbrev pub is_option : List ℕ → Bool
is_option word = starts_with nat_eq word (codes "--")

abbrev pub is_name : List ℕ → Bool
is_name name = nat_lt 0 (length name) && nat_le (length name) 255 && not (is_option name) && all_graphic name

abbrev pub all_names : List (List ℕ) → Bool
all_names words = list_all is_name words

-- a description, a ports file, and one to sixteen Verilog files
unfoldable pub files_of : List (List ℕ) → Option FileNames
files_of (rdl ∷ ports ∷ verilog ∷ others) =
    if nat_le (length others) OTHERS_LIMIT && all_names (rdl ∷ ports ∷ verilog ∷ others)
    then Some (record { rdl = rdl; ports = ports; verilog = verilog; others = length others }) else None
files_of _ = None

-- the value of an option that hasn't come before: a number within a range, or a name
abbrev pub in_range : Option ℕ → ℕ → ℕ → Option ℕ
in_range (Some value) low high = if nat_le low value && nat_le value high then Some value else None
in_range None low high = None

unfoldable pub fresh_number : Option ℕ → ℕ → ℕ → List ℕ → Option ℕ
fresh_number before low high word = if is_some before then None else in_range (plain_value word) low high

unfoldable pub fresh_name : Option (List ℕ) → List ℕ → Option (List ℕ)
fresh_name before word = if is_some before then None else if is_name word then Some word else None

-- the options with one more
abbrev pub with_bound : Options → Option ℕ → Option Options
with_bound options (Some k) = Some (record options { bound = Some k })
with_bound options None = None

abbrev pub with_budget : Options → Option ℕ → Option Options
with_budget options (Some b) = Some (record options { budget = Some b })
with_budget options None = None

abbrev pub with_seed : Options → Option ℕ → Option Options
with_seed options (Some s) = Some (record options { seed = Some s })
with_seed options None = None

abbrev pub with_cert : Options → Option (List ℕ) → Option Options
with_cert options (Some file) = Some (record options { cert = Some file })
with_cert options None = None

abbrev pub with_trace : Options → Option (List ℕ) → Option Options
with_trace options (Some file) = Some (record options { trace = Some file })
with_trace options None = None

unfoldable pub with_option : Options → List ℕ → List ℕ → Option Options
with_option options name word =
    if bytes_eq name (codes "--bound") then with_bound options (fresh_number options.bound 1 BOUND_LIMIT word)
    else if bytes_eq name (codes "--budget") then with_budget options (fresh_number options.budget 1 BUDGET_LIMIT word)
    else if bytes_eq name (codes "--seed") then with_seed options (fresh_number options.seed 0 (2 ^ 64 - 1) word)
    else if bytes_eq name (codes "--cert") then with_cert options (fresh_name options.cert word)
    else if bytes_eq name (codes "--trace") then with_trace options (fresh_name options.trace word)
    else None

-- pairs of a name and a value, in any order, each name at most once
abbrev pub no_options : Options
no_options = record { bound = None; budget = None; seed = None; cert = None; trace = None }

abbrev pub options_of : List (List ℕ) → Options → Option Options
options_of [] found = Some found
options_of (name ∷ []) found = None
options_of (name ∷ word ∷ rest) found = option_and_then (options_of rest) (with_option found name word)

-- `prove` has names and then options, `check` and `replay` have one name more and no option
abbrev pub option_place : List (List ℕ) → ℕ
option_place words = unwrap_or (position is_option words) (length words)

abbrev pub prove_with : Option FileNames → Option Options → Option Command
prove_with None options = None
prove_with (Some files) None = None
prove_with (Some files) (Some options) = Some (Prove files options)

unfoldable pub prove_of : List (List ℕ) → Option Command
prove_of words = prove_with (files_of (take (option_place words) words)) (options_of (drop (option_place words) words) no_options)

unfoldable pub check_of : List (List ℕ) → Option Command
check_of [] = None
check_of (cert ∷ names) = if is_name cert then option_map (Check cert) (files_of names) else None

unfoldable pub replay_of : List (List ℕ) → Option Command
replay_of [] = None
replay_of (trace ∷ names) = if is_name trace then option_map (Replay trace) (files_of names) else None

unfoldable pub map_of : List (List ℕ) → Option Command
map_of (rdl ∷ []) = if is_name rdl then Some (Map rdl) else None
map_of _ = None

unfoldable pub sample_of : List (List ℕ) → Option Command
sample_of (number ∷ []) = option_map Sample (plain_value number)
sample_of _ = None

-- the one command that words are, where they are in the grammar
abbrev pub command_of : List (List ℕ) → Option Command
command_of [] = None
command_of (verb ∷ rest) =
    if bytes_eq verb (codes "prove") then prove_of rest
    else if bytes_eq verb (codes "check") then check_of rest
    else if bytes_eq verb (codes "replay") then replay_of rest
    else if bytes_eq verb (codes "map") then map_of rest
    else if bytes_eq verb (codes "sample") then sample_of rest
    else None

-- what is answered so far: `prove` with no option but a seed and a file for the trace, and `replay`, each
-- with one Verilog file; and `map`
abbrev pub is_plain : Options → Bool
is_plain options = is_none options.bound && is_none options.budget && is_none options.cert

abbrev pub task_of : Command → Option Task
task_of (Prove names options) =
    if names.others == 0 && is_plain options
    then Some (tasks.Block (record { rdl = names.rdl; ports = names.ports; verilog = names.verilog; work = work.Sample (unwrap_or options.seed 1); trace_file = options.trace })) else None
task_of (Replay trace names) =
    if names.others == 0 then Some (tasks.Block (record { rdl = names.rdl; ports = names.ports; verilog = names.verilog; work = work.Replay trace; trace_file = None })) else None
task_of (Check cert names) = None
task_of (Map rdl) = Some (tasks.Describe rdl)
task_of (Sample number) = None

abbrev pub task_asked : List (List ℕ) → Option Task
task_asked words = option_and_then task_of (command_of words)

-- the file that the words name for the trace of a difference
abbrev pub trace_file_of : Task → Option (List ℕ)
trace_file_of (tasks.Block task) = task.trace_file
trace_file_of (tasks.Describe rdl) = None

abbrev pub trace_file : List (List ℕ) → Option (List ℕ)
trace_file words = option_and_then trace_file_of (task_asked words)

-- the description that `map` is asked for
abbrev pub description_of : Task → Option (List ℕ)
description_of (tasks.Block task) = None
description_of (tasks.Describe rdl) = Some rdl

abbrev pub description_asked : List (List ℕ) → Option (List ℕ)
description_asked words = option_and_then description_of (task_asked words)

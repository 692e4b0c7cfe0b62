-- Laws of spelling and reading, and of the sampled run.
use Rattle.std.specs.Prelude.{◌≡◌, ◌↔◌, ℕ, true, List, Some}
use Rattle.trace_replay.specs.declared.expression.Expression.{Expression}
use Rattle.prove_top.specs.declared.verilog.Drivers.{Drivers}
use Rattle.prove_top.specs.Verilog.{drivers_of, verilog_text, AreFirstForm}
use Rattle.prove_top.specs.Spelling.{spelling, has_digits}
use Rattle.trace_replay.specs.declared.block.Block.{Block}
use Rattle.trace_replay.specs.Runs.{JointRun, IsJointRun, IsDriven, IsLegalRun, IsFirst}
use Rattle.prove_top.specs.Sampled.{choices_to, sample_bits, sampled, sampled_register, sampled_wires}
use Rattle.prove_top.specs.declared.sampled.TheConstants.{EDGES}

-- two expressions with one spelling are equal
abbrev pub OneSpelling : Type 0
OneSpelling = (a b : Expression) → has_digits a ≡ true → has_digits b ≡ true → spelling a ≡ spelling b → a ≡ b

-- a text reads as two expressions exactly where it is the text with these two, and both are of the first
-- form
abbrev pub ReadsWhatIsSpelled : Type 0
ReadsWhatIsSpelled = (bytes : List ℕ) (drivers : Drivers) → (drivers_of bytes ≡ Some drivers) ↔ (AreFirstForm drivers × (bytes ≡ verilog_text drivers))

-- in the joint run that the sampled register and wires give, the wires are those that the drawn choices
-- drive, and a legal master's, and the sampled difference is the first that an edge has
abbrev pub SampledIsFirst : Type 0
SampledIsFirst = (block : Block) (seed : ℕ) (run : JointRun) → IsJointRun block (sampled_wires block seed) run → run.register 0 ≡ sampled_register seed
    → IsDriven block (sampled_wires block seed) run (choices_to (sample_bits seed) EDGES) × IsLegalRun block (sampled_wires block seed) run × IsFirst block (sampled_wires block seed) run (sampled block seed)

-- One token of each sort, and the laws of the rules that read it.
use Rattle.std.proofs.Common.{◌≡◌, ℕ, true, List, [], ◌∷◌, codes, refl}
use Rattle.parsing.specs.Parser.{expect}
use Rattle.parsing.specs.Rule.{one}
use Rattle.vlog_tree.specs.declared.token.VTokenKind.{VTokenKind}
use Rattle.vlog_tree.specs.declared.token.VTokenKind.TheVariants.{Name, Word, Number, System, Mark}
use Rattle.vlog_tree.specs.declared.token.VToken.{VToken}
use Rattle.vlog_tree.specs.Spelling.{is_token, is_quoted}
use Rattle.vlog_tree.specs.Terminals.{is_mark, is_word, is_name, is_number, is_function, is_unary, is_edge, is_separator, is_assigning, is_case_word, is_constant_word}
use Rattle.vlog_tree.specs.ReadExpressions.{mark, word}
use Rattle.vlog_tree.proofs.Sorts.{open_paren_sorted, close_paren_sorted, open_bracket_sorted, close_bracket_sorted, open_brace_sorted, close_brace_sorted, semi_sorted, comma_sorted, equals_sorted, colon_sorted, upward_sorted, query_sorted, hash_sorted, dot_sorted, at_sorted, star_sorted, module_word_sorted, endmodule_word_sorted, parameter_word_sorted, input_word_sorted, output_word_sorted, wire_word_sorted, reg_word_sorted, signed_word_sorted, localparam_word_sorted, genvar_word_sorted, assign_word_sorted, always_word_sorted, initial_word_sorted, generate_word_sorted, endgenerate_word_sorted, for_word_sorted, if_word_sorted, else_word_sorted, begin_word_sorted, end_word_sorted, or_word_sorted, posedge_word_sorted, negedge_word_sorted, case_word_sorted, endcase_word_sorted, default_word_sorted, casez_word_sorted, name_sorted, number_sorted, function_sorted, unary_sorted, is_edge_sorted, is_separator_sorted, is_assigning_sorted, is_case_word_sorted, is_constant_word_sorted}
use Rattle.vlog_tree.proofs.Build.{Reading, Holds, token_rule}

unfoldable pub token_of : (kind : VTokenKind) (text : List ℕ) → is_token kind text ≡ true → VToken
token_of kind text is = record { kind = kind; text = text; place = record { file = 0; line = 1; column = 1 }; spelled = is }

pub open_paren_rule : (room more : ℕ) (N : List ℕ) → Reading room more (40 ∷ []) N (mark (codes "(")) (mark (codes "(")) one (Holds (is_mark (codes "(")))
unfolding token_of is_token is_quoted
open_paren_rule room more N = token_rule (is_mark (codes "(")) (40 ∷ []) N open_paren_sorted refl (token_of Mark (codes "(") refl) refl

pub close_paren_rule : (room more : ℕ) (N : List ℕ) → Reading room more (41 ∷ []) N (mark (codes ")")) (mark (codes ")")) one (Holds (is_mark (codes ")")))
unfolding token_of is_token is_quoted
close_paren_rule room more N = token_rule (is_mark (codes ")")) (41 ∷ []) N close_paren_sorted refl (token_of Mark (codes ")") refl) refl

pub open_bracket_rule : (room more : ℕ) (N : List ℕ) → Reading room more (42 ∷ []) N (mark (codes "[")) (mark (codes "[")) one (Holds (is_mark (codes "[")))
unfolding token_of is_token is_quoted
open_bracket_rule room more N = token_rule (is_mark (codes "[")) (42 ∷ []) N open_bracket_sorted refl (token_of Mark (codes "[") refl) refl

pub close_bracket_rule : (room more : ℕ) (N : List ℕ) → Reading room more (43 ∷ []) N (mark (codes "]")) (mark (codes "]")) one (Holds (is_mark (codes "]")))
unfolding token_of is_token is_quoted
close_bracket_rule room more N = token_rule (is_mark (codes "]")) (43 ∷ []) N close_bracket_sorted refl (token_of Mark (codes "]") refl) refl

pub open_brace_rule : (room more : ℕ) (N : List ℕ) → Reading room more (44 ∷ []) N (mark (codes "{")) (mark (codes "{")) one (Holds (is_mark (codes "{")))
unfolding token_of is_token is_quoted
open_brace_rule room more N = token_rule (is_mark (codes "{")) (44 ∷ []) N open_brace_sorted refl (token_of Mark (codes "{") refl) refl

pub close_brace_rule : (room more : ℕ) (N : List ℕ) → Reading room more (45 ∷ []) N (mark (codes "}")) (mark (codes "}")) one (Holds (is_mark (codes "}")))
unfolding token_of is_token is_quoted
close_brace_rule room more N = token_rule (is_mark (codes "}")) (45 ∷ []) N close_brace_sorted refl (token_of Mark (codes "}") refl) refl

pub semi_rule : (room more : ℕ) (N : List ℕ) → Reading room more (46 ∷ []) N (mark (codes ";")) (mark (codes ";")) one (Holds (is_mark (codes ";")))
unfolding token_of is_token is_quoted
semi_rule room more N = token_rule (is_mark (codes ";")) (46 ∷ []) N semi_sorted refl (token_of Mark (codes ";") refl) refl

pub comma_rule : (room more : ℕ) (N : List ℕ) → Reading room more (47 ∷ []) N (mark (codes ",")) (mark (codes ",")) one (Holds (is_mark (codes ",")))
unfolding token_of is_token is_quoted
comma_rule room more N = token_rule (is_mark (codes ",")) (47 ∷ []) N comma_sorted refl (token_of Mark (codes ",") refl) refl

pub equals_rule : (room more : ℕ) (N : List ℕ) → Reading room more (48 ∷ []) N (mark (codes "=")) (mark (codes "=")) one (Holds (is_mark (codes "=")))
unfolding token_of is_token is_quoted
equals_rule room more N = token_rule (is_mark (codes "=")) (48 ∷ []) N equals_sorted refl (token_of Mark (codes "=") refl) refl

pub colon_rule : (room more : ℕ) (N : List ℕ) → Reading room more (49 ∷ []) N (mark (codes ":")) (mark (codes ":")) one (Holds (is_mark (codes ":")))
unfolding token_of is_token is_quoted
colon_rule room more N = token_rule (is_mark (codes ":")) (49 ∷ []) N colon_sorted refl (token_of Mark (codes ":") refl) refl

pub upward_rule : (room more : ℕ) (N : List ℕ) → Reading room more (50 ∷ []) N (mark (codes "+:")) (mark (codes "+:")) one (Holds (is_mark (codes "+:")))
unfolding token_of is_token is_quoted
upward_rule room more N = token_rule (is_mark (codes "+:")) (50 ∷ []) N upward_sorted refl (token_of Mark (codes "+:") refl) refl

pub query_rule : (room more : ℕ) (N : List ℕ) → Reading room more (51 ∷ []) N (mark (codes "?")) (mark (codes "?")) one (Holds (is_mark (codes "?")))
unfolding token_of is_token is_quoted
query_rule room more N = token_rule (is_mark (codes "?")) (51 ∷ []) N query_sorted refl (token_of Mark (codes "?") refl) refl

pub hash_rule : (room more : ℕ) (N : List ℕ) → Reading room more (52 ∷ []) N (mark (codes "#")) (mark (codes "#")) one (Holds (is_mark (codes "#")))
unfolding token_of is_token is_quoted
hash_rule room more N = token_rule (is_mark (codes "#")) (52 ∷ []) N hash_sorted refl (token_of Mark (codes "#") refl) refl

pub dot_rule : (room more : ℕ) (N : List ℕ) → Reading room more (53 ∷ []) N (mark (codes ".")) (mark (codes ".")) one (Holds (is_mark (codes ".")))
unfolding token_of is_token is_quoted
dot_rule room more N = token_rule (is_mark (codes ".")) (53 ∷ []) N dot_sorted refl (token_of Mark (codes ".") refl) refl

pub at_rule : (room more : ℕ) (N : List ℕ) → Reading room more (54 ∷ []) N (mark (codes "@")) (mark (codes "@")) one (Holds (is_mark (codes "@")))
unfolding token_of is_token is_quoted
at_rule room more N = token_rule (is_mark (codes "@")) (54 ∷ []) N at_sorted refl (token_of Mark (codes "@") refl) refl

pub star_rule : (room more : ℕ) (N : List ℕ) → Reading room more (55 ∷ []) N (mark (codes "*")) (mark (codes "*")) one (Holds (is_mark (codes "*")))
unfolding token_of is_token is_quoted
star_rule room more N = token_rule (is_mark (codes "*")) (55 ∷ []) N star_sorted refl (token_of Mark (codes "*") refl) refl

pub module_word_rule : (room more : ℕ) (N : List ℕ) → Reading room more (10 ∷ []) N (word (codes "module")) (word (codes "module")) one (Holds (is_word (codes "module")))
unfolding token_of is_token is_quoted
module_word_rule room more N = token_rule (is_word (codes "module")) (10 ∷ []) N module_word_sorted refl (token_of Word (codes "module") refl) refl

pub endmodule_word_rule : (room more : ℕ) (N : List ℕ) → Reading room more (11 ∷ []) N (word (codes "endmodule")) (word (codes "endmodule")) one (Holds (is_word (codes "endmodule")))
unfolding token_of is_token is_quoted
endmodule_word_rule room more N = token_rule (is_word (codes "endmodule")) (11 ∷ []) N endmodule_word_sorted refl (token_of Word (codes "endmodule") refl) refl

pub parameter_word_rule : (room more : ℕ) (N : List ℕ) → Reading room more (12 ∷ []) N (word (codes "parameter")) (word (codes "parameter")) one (Holds (is_word (codes "parameter")))
unfolding token_of is_token is_quoted
parameter_word_rule room more N = token_rule (is_word (codes "parameter")) (12 ∷ []) N parameter_word_sorted refl (token_of Word (codes "parameter") refl) refl

pub input_word_rule : (room more : ℕ) (N : List ℕ) → Reading room more (13 ∷ []) N (word (codes "input")) (word (codes "input")) one (Holds (is_word (codes "input")))
unfolding token_of is_token is_quoted
input_word_rule room more N = token_rule (is_word (codes "input")) (13 ∷ []) N input_word_sorted refl (token_of Word (codes "input") refl) refl

pub output_word_rule : (room more : ℕ) (N : List ℕ) → Reading room more (14 ∷ []) N (word (codes "output")) (word (codes "output")) one (Holds (is_word (codes "output")))
unfolding token_of is_token is_quoted
output_word_rule room more N = token_rule (is_word (codes "output")) (14 ∷ []) N output_word_sorted refl (token_of Word (codes "output") refl) refl

pub wire_word_rule : (room more : ℕ) (N : List ℕ) → Reading room more (15 ∷ []) N (word (codes "wire")) (word (codes "wire")) one (Holds (is_word (codes "wire")))
unfolding token_of is_token is_quoted
wire_word_rule room more N = token_rule (is_word (codes "wire")) (15 ∷ []) N wire_word_sorted refl (token_of Word (codes "wire") refl) refl

pub reg_word_rule : (room more : ℕ) (N : List ℕ) → Reading room more (16 ∷ []) N (word (codes "reg")) (word (codes "reg")) one (Holds (is_word (codes "reg")))
unfolding token_of is_token is_quoted
reg_word_rule room more N = token_rule (is_word (codes "reg")) (16 ∷ []) N reg_word_sorted refl (token_of Word (codes "reg") refl) refl

pub signed_word_rule : (room more : ℕ) (N : List ℕ) → Reading room more (17 ∷ []) N (word (codes "signed")) (word (codes "signed")) one (Holds (is_word (codes "signed")))
unfolding token_of is_token is_quoted
signed_word_rule room more N = token_rule (is_word (codes "signed")) (17 ∷ []) N signed_word_sorted refl (token_of Word (codes "signed") refl) refl

pub localparam_word_rule : (room more : ℕ) (N : List ℕ) → Reading room more (18 ∷ []) N (word (codes "localparam")) (word (codes "localparam")) one (Holds (is_word (codes "localparam")))
unfolding token_of is_token is_quoted
localparam_word_rule room more N = token_rule (is_word (codes "localparam")) (18 ∷ []) N localparam_word_sorted refl (token_of Word (codes "localparam") refl) refl

pub genvar_word_rule : (room more : ℕ) (N : List ℕ) → Reading room more (19 ∷ []) N (word (codes "genvar")) (word (codes "genvar")) one (Holds (is_word (codes "genvar")))
unfolding token_of is_token is_quoted
genvar_word_rule room more N = token_rule (is_word (codes "genvar")) (19 ∷ []) N genvar_word_sorted refl (token_of Word (codes "genvar") refl) refl

pub assign_word_rule : (room more : ℕ) (N : List ℕ) → Reading room more (20 ∷ []) N (word (codes "assign")) (word (codes "assign")) one (Holds (is_word (codes "assign")))
unfolding token_of is_token is_quoted
assign_word_rule room more N = token_rule (is_word (codes "assign")) (20 ∷ []) N assign_word_sorted refl (token_of Word (codes "assign") refl) refl

pub always_word_rule : (room more : ℕ) (N : List ℕ) → Reading room more (21 ∷ []) N (word (codes "always")) (word (codes "always")) one (Holds (is_word (codes "always")))
unfolding token_of is_token is_quoted
always_word_rule room more N = token_rule (is_word (codes "always")) (21 ∷ []) N always_word_sorted refl (token_of Word (codes "always") refl) refl

pub initial_word_rule : (room more : ℕ) (N : List ℕ) → Reading room more (22 ∷ []) N (word (codes "initial")) (word (codes "initial")) one (Holds (is_word (codes "initial")))
unfolding token_of is_token is_quoted
initial_word_rule room more N = token_rule (is_word (codes "initial")) (22 ∷ []) N initial_word_sorted refl (token_of Word (codes "initial") refl) refl

pub generate_word_rule : (room more : ℕ) (N : List ℕ) → Reading room more (23 ∷ []) N (word (codes "generate")) (word (codes "generate")) one (Holds (is_word (codes "generate")))
unfolding token_of is_token is_quoted
generate_word_rule room more N = token_rule (is_word (codes "generate")) (23 ∷ []) N generate_word_sorted refl (token_of Word (codes "generate") refl) refl

pub endgenerate_word_rule : (room more : ℕ) (N : List ℕ) → Reading room more (24 ∷ []) N (word (codes "endgenerate")) (word (codes "endgenerate")) one (Holds (is_word (codes "endgenerate")))
unfolding token_of is_token is_quoted
endgenerate_word_rule room more N = token_rule (is_word (codes "endgenerate")) (24 ∷ []) N endgenerate_word_sorted refl (token_of Word (codes "endgenerate") refl) refl

pub for_word_rule : (room more : ℕ) (N : List ℕ) → Reading room more (25 ∷ []) N (word (codes "for")) (word (codes "for")) one (Holds (is_word (codes "for")))
unfolding token_of is_token is_quoted
for_word_rule room more N = token_rule (is_word (codes "for")) (25 ∷ []) N for_word_sorted refl (token_of Word (codes "for") refl) refl

pub if_word_rule : (room more : ℕ) (N : List ℕ) → Reading room more (26 ∷ []) N (word (codes "if")) (word (codes "if")) one (Holds (is_word (codes "if")))
unfolding token_of is_token is_quoted
if_word_rule room more N = token_rule (is_word (codes "if")) (26 ∷ []) N if_word_sorted refl (token_of Word (codes "if") refl) refl

pub else_word_rule : (room more : ℕ) (N : List ℕ) → Reading room more (27 ∷ []) N (word (codes "else")) (word (codes "else")) one (Holds (is_word (codes "else")))
unfolding token_of is_token is_quoted
else_word_rule room more N = token_rule (is_word (codes "else")) (27 ∷ []) N else_word_sorted refl (token_of Word (codes "else") refl) refl

pub begin_word_rule : (room more : ℕ) (N : List ℕ) → Reading room more (28 ∷ []) N (word (codes "begin")) (word (codes "begin")) one (Holds (is_word (codes "begin")))
unfolding token_of is_token is_quoted
begin_word_rule room more N = token_rule (is_word (codes "begin")) (28 ∷ []) N begin_word_sorted refl (token_of Word (codes "begin") refl) refl

pub end_word_rule : (room more : ℕ) (N : List ℕ) → Reading room more (29 ∷ []) N (word (codes "end")) (word (codes "end")) one (Holds (is_word (codes "end")))
unfolding token_of is_token is_quoted
end_word_rule room more N = token_rule (is_word (codes "end")) (29 ∷ []) N end_word_sorted refl (token_of Word (codes "end") refl) refl

pub or_word_rule : (room more : ℕ) (N : List ℕ) → Reading room more (30 ∷ []) N (word (codes "or")) (word (codes "or")) one (Holds (is_word (codes "or")))
unfolding token_of is_token is_quoted
or_word_rule room more N = token_rule (is_word (codes "or")) (30 ∷ []) N or_word_sorted refl (token_of Word (codes "or") refl) refl

pub posedge_word_rule : (room more : ℕ) (N : List ℕ) → Reading room more (31 ∷ []) N (word (codes "posedge")) (word (codes "posedge")) one (Holds (is_word (codes "posedge")))
unfolding token_of is_token is_quoted
posedge_word_rule room more N = token_rule (is_word (codes "posedge")) (31 ∷ []) N posedge_word_sorted refl (token_of Word (codes "posedge") refl) refl

pub negedge_word_rule : (room more : ℕ) (N : List ℕ) → Reading room more (32 ∷ []) N (word (codes "negedge")) (word (codes "negedge")) one (Holds (is_word (codes "negedge")))
unfolding token_of is_token is_quoted
negedge_word_rule room more N = token_rule (is_word (codes "negedge")) (32 ∷ []) N negedge_word_sorted refl (token_of Word (codes "negedge") refl) refl

pub case_word_rule : (room more : ℕ) (N : List ℕ) → Reading room more (33 ∷ []) N (word (codes "case")) (word (codes "case")) one (Holds (is_word (codes "case")))
unfolding token_of is_token is_quoted
case_word_rule room more N = token_rule (is_word (codes "case")) (33 ∷ []) N case_word_sorted refl (token_of Word (codes "case") refl) refl

pub endcase_word_rule : (room more : ℕ) (N : List ℕ) → Reading room more (34 ∷ []) N (word (codes "endcase")) (word (codes "endcase")) one (Holds (is_word (codes "endcase")))
unfolding token_of is_token is_quoted
endcase_word_rule room more N = token_rule (is_word (codes "endcase")) (34 ∷ []) N endcase_word_sorted refl (token_of Word (codes "endcase") refl) refl

pub default_word_rule : (room more : ℕ) (N : List ℕ) → Reading room more (35 ∷ []) N (word (codes "default")) (word (codes "default")) one (Holds (is_word (codes "default")))
unfolding token_of is_token is_quoted
default_word_rule room more N = token_rule (is_word (codes "default")) (35 ∷ []) N default_word_sorted refl (token_of Word (codes "default") refl) refl

pub casez_word_rule : (room more : ℕ) (N : List ℕ) → Reading room more (36 ∷ []) N (word (codes "casez")) (word (codes "casez")) one (Holds (is_word (codes "casez")))
unfolding token_of is_token is_quoted
casez_word_rule room more N = token_rule (is_word (codes "casez")) (36 ∷ []) N casez_word_sorted refl (token_of Word (codes "casez") refl) refl

pub name_rule : (room more : ℕ) (N : List ℕ) → Reading room more (1 ∷ []) N (expect is_name) (expect is_name) one (Holds is_name)
unfolding token_of is_token is_quoted
name_rule room more N = token_rule is_name (1 ∷ []) N name_sorted refl (token_of Name (codes "a") refl) refl

pub number_rule : (room more : ℕ) (N : List ℕ) → Reading room more (2 ∷ []) N (expect is_number) (expect is_number) one (Holds is_number)
unfolding token_of is_token is_quoted
number_rule room more N = token_rule is_number (2 ∷ []) N number_sorted refl (token_of Number (codes "0") refl) refl

pub function_rule : (room more : ℕ) (N : List ℕ) → Reading room more (3 ∷ []) N (expect is_function) (expect is_function) one (Holds is_function)
unfolding token_of is_token is_quoted is_function
function_rule room more N = token_rule is_function (3 ∷ []) N function_sorted refl (token_of System (codes "$clog2") refl) refl

pub unary_rule : (room more : ℕ) (N : List ℕ) → Reading room more (58 ∷ 68 ∷ 63 ∷ 64 ∷ 65 ∷ []) N (expect is_unary) (expect is_unary) one (Holds is_unary)
unfolding token_of is_token is_quoted is_unary
unary_rule room more N = token_rule is_unary (58 ∷ 68 ∷ 63 ∷ 64 ∷ 65 ∷ []) N unary_sorted refl (token_of Mark (codes "!") refl) refl

pub edge_rule : (room more : ℕ) (N : List ℕ) → Reading room more (31 ∷ 32 ∷ []) N (expect is_edge) (expect is_edge) one (Holds is_edge)
unfolding token_of is_token is_quoted is_edge
edge_rule room more N = token_rule is_edge (31 ∷ 32 ∷ []) N is_edge_sorted refl (token_of Word (codes "posedge") refl) refl

pub separator_rule : (room more : ℕ) (N : List ℕ) → Reading room more (30 ∷ 47 ∷ []) N (expect is_separator) (expect is_separator) one (Holds is_separator)
unfolding token_of is_token is_quoted is_separator
separator_rule room more N = token_rule is_separator (30 ∷ 47 ∷ []) N is_separator_sorted refl (token_of Word (codes "or") refl) refl

pub assigning_rule : (room more : ℕ) (N : List ℕ) → Reading room more (48 ∷ 60 ∷ []) N (expect is_assigning) (expect is_assigning) one (Holds is_assigning)
unfolding token_of is_token is_quoted is_assigning
assigning_rule room more N = token_rule is_assigning (48 ∷ 60 ∷ []) N is_assigning_sorted refl (token_of Mark (codes "=") refl) refl

pub case_any_rule : (room more : ℕ) (N : List ℕ) → Reading room more (33 ∷ 36 ∷ []) N (expect is_case_word) (expect is_case_word) one (Holds is_case_word)
unfolding token_of is_token is_quoted is_case_word
case_any_rule room more N = token_rule is_case_word (33 ∷ 36 ∷ []) N is_case_word_sorted refl (token_of Word (codes "case") refl) refl

pub constant_any_rule : (room more : ℕ) (N : List ℕ) → Reading room more (12 ∷ 18 ∷ []) N (expect is_constant_word) (expect is_constant_word) one (Holds is_constant_word)
unfolding token_of is_token is_quoted is_constant_word
constant_any_rule room more N = token_rule is_constant_word (12 ∷ 18 ∷ []) N is_constant_word_sorted refl (token_of Word (codes "parameter") refl) refl

-- One token of each sort, and the laws of the rules that read it.
use Rattle.std.proofs.Common.{◌≡◌, ℕ, true, List, [], ◌∷◌, codes, refl}
use Rattle.parsing.specs.Parser.{expect}
use Rattle.parsing.specs.Rule.{one}
use Rattle.rdl_tree.specs.declared.token.RdlTokenKind.{RdlTokenKind}
use Rattle.rdl_tree.specs.declared.token.RdlTokenKind.TheVariants.{Word, Num, Str, Mark}
use Rattle.rdl_tree.specs.declared.token.RdlToken.{RdlToken}
use Rattle.rdl_tree.specs.Spelling.{is_token}
use Rattle.rdl_tree.specs.Tree.{is_kind, is_text, is_name, is_reserved}
use Rattle.rdl_parse.specs.Grammar.{mark, number, name}
use Rattle.rdl_parse.proofs.Sorts.{name_sorted, number_sorted, string_sorted, open_brace_sorted, close_brace_sorted, open_bracket_sorted, close_bracket_sorted, semi_sorted, comma_sorted, equals_sorted, colon_sorted, at_sorted, arrow_sorted, plus_equals_sorted, percent_equals_sorted, dot_sorted, addrmap_sorted, regfile_sorted, reg_sorted, field_sorted, enum_sorted, default_sorted, true_sorted, false_sorted}
use Rattle.rdl_parse.proofs.Build.{Reading, Holds, token_rule}

token_of : (kind : RdlTokenKind) (text : List ℕ) (value : ℕ) → is_token kind text value ≡ true → RdlToken
token_of kind text value is = record { kind = kind; text = text; value = value; place = record { file = 0; line = 1; column = 1 }; spelled = is }

open_brace_token : RdlToken
unfolding token_of is_token
open_brace_token = token_of Mark (codes "{") 0 refl

pub open_brace_rule : (room more : ℕ) (N : List ℕ) → Reading room more (10 ∷ []) N (mark (codes "{")) (mark (codes "{")) one (Holds (is_text (codes "{")))
unfolding open_brace_token token_of is_reserved
open_brace_rule room more N = token_rule (is_text (codes "{")) 10 N open_brace_sorted open_brace_token refl

close_brace_token : RdlToken
unfolding token_of is_token
close_brace_token = token_of Mark (codes "}") 0 refl

pub close_brace_rule : (room more : ℕ) (N : List ℕ) → Reading room more (11 ∷ []) N (mark (codes "}")) (mark (codes "}")) one (Holds (is_text (codes "}")))
unfolding close_brace_token token_of is_reserved
close_brace_rule room more N = token_rule (is_text (codes "}")) 11 N close_brace_sorted close_brace_token refl

open_bracket_token : RdlToken
unfolding token_of is_token
open_bracket_token = token_of Mark (codes "[") 0 refl

pub open_bracket_rule : (room more : ℕ) (N : List ℕ) → Reading room more (12 ∷ []) N (mark (codes "[")) (mark (codes "[")) one (Holds (is_text (codes "[")))
unfolding open_bracket_token token_of is_reserved
open_bracket_rule room more N = token_rule (is_text (codes "[")) 12 N open_bracket_sorted open_bracket_token refl

close_bracket_token : RdlToken
unfolding token_of is_token
close_bracket_token = token_of Mark (codes "]") 0 refl

pub close_bracket_rule : (room more : ℕ) (N : List ℕ) → Reading room more (13 ∷ []) N (mark (codes "]")) (mark (codes "]")) one (Holds (is_text (codes "]")))
unfolding close_bracket_token token_of is_reserved
close_bracket_rule room more N = token_rule (is_text (codes "]")) 13 N close_bracket_sorted close_bracket_token refl

semi_token : RdlToken
unfolding token_of is_token
semi_token = token_of Mark (codes ";") 0 refl

pub semi_rule : (room more : ℕ) (N : List ℕ) → Reading room more (14 ∷ []) N (mark (codes ";")) (mark (codes ";")) one (Holds (is_text (codes ";")))
unfolding semi_token token_of is_reserved
semi_rule room more N = token_rule (is_text (codes ";")) 14 N semi_sorted semi_token refl

comma_token : RdlToken
unfolding token_of is_token
comma_token = token_of Mark (codes ",") 0 refl

pub comma_rule : (room more : ℕ) (N : List ℕ) → Reading room more (15 ∷ []) N (mark (codes ",")) (mark (codes ",")) one (Holds (is_text (codes ",")))
unfolding comma_token token_of is_reserved
comma_rule room more N = token_rule (is_text (codes ",")) 15 N comma_sorted comma_token refl

equals_token : RdlToken
unfolding token_of is_token
equals_token = token_of Mark (codes "=") 0 refl

pub equals_rule : (room more : ℕ) (N : List ℕ) → Reading room more (16 ∷ []) N (mark (codes "=")) (mark (codes "=")) one (Holds (is_text (codes "=")))
unfolding equals_token token_of is_reserved
equals_rule room more N = token_rule (is_text (codes "=")) 16 N equals_sorted equals_token refl

colon_token : RdlToken
unfolding token_of is_token
colon_token = token_of Mark (codes ":") 0 refl

pub colon_rule : (room more : ℕ) (N : List ℕ) → Reading room more (17 ∷ []) N (mark (codes ":")) (mark (codes ":")) one (Holds (is_text (codes ":")))
unfolding colon_token token_of is_reserved
colon_rule room more N = token_rule (is_text (codes ":")) 17 N colon_sorted colon_token refl

at_token : RdlToken
unfolding token_of is_token
at_token = token_of Mark (codes "@") 0 refl

pub at_rule : (room more : ℕ) (N : List ℕ) → Reading room more (18 ∷ []) N (mark (codes "@")) (mark (codes "@")) one (Holds (is_text (codes "@")))
unfolding at_token token_of is_reserved
at_rule room more N = token_rule (is_text (codes "@")) 18 N at_sorted at_token refl

arrow_token : RdlToken
unfolding token_of is_token
arrow_token = token_of Mark (codes "->") 0 refl

pub arrow_rule : (room more : ℕ) (N : List ℕ) → Reading room more (19 ∷ []) N (mark (codes "->")) (mark (codes "->")) one (Holds (is_text (codes "->")))
unfolding arrow_token token_of is_reserved
arrow_rule room more N = token_rule (is_text (codes "->")) 19 N arrow_sorted arrow_token refl

plus_equals_token : RdlToken
unfolding token_of is_token
plus_equals_token = token_of Mark (codes "+=") 0 refl

pub plus_equals_rule : (room more : ℕ) (N : List ℕ) → Reading room more (20 ∷ []) N (mark (codes "+=")) (mark (codes "+=")) one (Holds (is_text (codes "+=")))
unfolding plus_equals_token token_of is_reserved
plus_equals_rule room more N = token_rule (is_text (codes "+=")) 20 N plus_equals_sorted plus_equals_token refl

percent_equals_token : RdlToken
unfolding token_of is_token
percent_equals_token = token_of Mark (codes "%=") 0 refl

pub percent_equals_rule : (room more : ℕ) (N : List ℕ) → Reading room more (21 ∷ []) N (mark (codes "%=")) (mark (codes "%=")) one (Holds (is_text (codes "%=")))
unfolding percent_equals_token token_of is_reserved
percent_equals_rule room more N = token_rule (is_text (codes "%=")) 21 N percent_equals_sorted percent_equals_token refl

dot_token : RdlToken
unfolding token_of is_token
dot_token = token_of Mark (codes ".") 0 refl

pub dot_rule : (room more : ℕ) (N : List ℕ) → Reading room more (22 ∷ []) N (mark (codes ".")) (mark (codes ".")) one (Holds (is_text (codes ".")))
unfolding dot_token token_of is_reserved
dot_rule room more N = token_rule (is_text (codes ".")) 22 N dot_sorted dot_token refl

addrmap_token : RdlToken
unfolding token_of is_token
addrmap_token = token_of Word (codes "addrmap") 0 refl

pub addrmap_rule : (room more : ℕ) (N : List ℕ) → Reading room more (30 ∷ []) N (mark (codes "addrmap")) (mark (codes "addrmap")) one (Holds (is_text (codes "addrmap")))
unfolding addrmap_token token_of is_reserved
addrmap_rule room more N = token_rule (is_text (codes "addrmap")) 30 N addrmap_sorted addrmap_token refl

regfile_token : RdlToken
unfolding token_of is_token
regfile_token = token_of Word (codes "regfile") 0 refl

pub regfile_rule : (room more : ℕ) (N : List ℕ) → Reading room more (31 ∷ []) N (mark (codes "regfile")) (mark (codes "regfile")) one (Holds (is_text (codes "regfile")))
unfolding regfile_token token_of is_reserved
regfile_rule room more N = token_rule (is_text (codes "regfile")) 31 N regfile_sorted regfile_token refl

reg_token : RdlToken
unfolding token_of is_token
reg_token = token_of Word (codes "reg") 0 refl

pub reg_rule : (room more : ℕ) (N : List ℕ) → Reading room more (32 ∷ []) N (mark (codes "reg")) (mark (codes "reg")) one (Holds (is_text (codes "reg")))
unfolding reg_token token_of is_reserved
reg_rule room more N = token_rule (is_text (codes "reg")) 32 N reg_sorted reg_token refl

field_token : RdlToken
unfolding token_of is_token
field_token = token_of Word (codes "field") 0 refl

pub field_rule : (room more : ℕ) (N : List ℕ) → Reading room more (33 ∷ []) N (mark (codes "field")) (mark (codes "field")) one (Holds (is_text (codes "field")))
unfolding field_token token_of is_reserved
field_rule room more N = token_rule (is_text (codes "field")) 33 N field_sorted field_token refl

enum_token : RdlToken
unfolding token_of is_token
enum_token = token_of Word (codes "enum") 0 refl

pub enum_rule : (room more : ℕ) (N : List ℕ) → Reading room more (34 ∷ []) N (mark (codes "enum")) (mark (codes "enum")) one (Holds (is_text (codes "enum")))
unfolding enum_token token_of is_reserved
enum_rule room more N = token_rule (is_text (codes "enum")) 34 N enum_sorted enum_token refl

default_token : RdlToken
unfolding token_of is_token
default_token = token_of Word (codes "default") 0 refl

pub default_rule : (room more : ℕ) (N : List ℕ) → Reading room more (35 ∷ []) N (mark (codes "default")) (mark (codes "default")) one (Holds (is_text (codes "default")))
unfolding default_token token_of is_reserved
default_rule room more N = token_rule (is_text (codes "default")) 35 N default_sorted default_token refl

true_token : RdlToken
unfolding token_of is_token
true_token = token_of Word (codes "true") 0 refl

pub true_rule : (room more : ℕ) (N : List ℕ) → Reading room more (36 ∷ []) N (mark (codes "true")) (mark (codes "true")) one (Holds (is_text (codes "true")))
unfolding true_token token_of is_reserved
true_rule room more N = token_rule (is_text (codes "true")) 36 N true_sorted true_token refl

false_token : RdlToken
unfolding token_of is_token
false_token = token_of Word (codes "false") 0 refl

pub false_rule : (room more : ℕ) (N : List ℕ) → Reading room more (37 ∷ []) N (mark (codes "false")) (mark (codes "false")) one (Holds (is_text (codes "false")))
unfolding false_token token_of is_reserved
false_rule room more N = token_rule (is_text (codes "false")) 37 N false_sorted false_token refl

number_token : RdlToken
unfolding token_of is_token
number_token = token_of Num (codes "0") 0 refl

pub number_rule : (room more : ℕ) (N : List ℕ) → Reading room more (1 ∷ []) N (number) (number) one (Holds (is_kind Num))
unfolding number_token token_of is_reserved
number_rule room more N = token_rule (is_kind Num) 1 N number_sorted number_token refl

name_token : RdlToken
unfolding token_of is_token
name_token = token_of Word (codes "a") 0 refl

pub name_rule : (room more : ℕ) (N : List ℕ) → Reading room more (4 ∷ []) N (name) (name) one (Holds (is_name))
unfolding name_token token_of is_reserved
name_rule room more N = token_rule (is_name) 4 N name_sorted name_token refl

string_token : RdlToken
unfolding token_of is_token
string_token = token_of Str (34 ∷ 34 ∷ []) 0 refl

pub string_rule : (room more : ℕ) (N : List ℕ) → Reading room more (2 ∷ []) N (expect (is_kind Str)) (expect (is_kind Str)) one (Holds (is_kind Str))
unfolding string_token token_of
string_rule room more N = token_rule (is_kind Str) 2 N string_sorted string_token refl

-- Sets of sorts: what the rows of the grammar begin with, and what may come after them.
use Rattle.std.proofs.Common.{ℕ, List, [], ◌∷◌}

abbrev pub expr_firsts : List ℕ
expr_firsts = 2 ∷ 1 ∷ 40 ∷ 44 ∷ 3 ∷ 58 ∷ 68 ∷ 63 ∷ 64 ∷ 65 ∷ []

abbrev pub expr_nexts : List ℕ
expr_nexts = 49 ∷ 41 ∷ 47 ∷ 45 ∷ 44 ∷ 43 ∷ 50 ∷ 46 ∷ []

abbrev pub nexts_0 : List ℕ
nexts_0 = 56 ∷ 55 ∷ 57 ∷ 58 ∷ 59 ∷ 60 ∷ 61 ∷ 62 ∷ 63 ∷ 64 ∷ 65 ∷ 66 ∷ 67 ∷ 51 ∷ 49 ∷ 41 ∷ 47 ∷ 45 ∷ 44 ∷ 43 ∷ 50 ∷ 46 ∷ []

abbrev pub nexts_1 : List ℕ
nexts_1 = 55 ∷ 57 ∷ 58 ∷ 59 ∷ 60 ∷ 61 ∷ 62 ∷ 63 ∷ 64 ∷ 65 ∷ 66 ∷ 67 ∷ 51 ∷ 49 ∷ 41 ∷ 47 ∷ 45 ∷ 44 ∷ 43 ∷ 50 ∷ 46 ∷ []

abbrev pub nexts_2 : List ℕ
nexts_2 = 58 ∷ 59 ∷ 60 ∷ 61 ∷ 62 ∷ 63 ∷ 64 ∷ 65 ∷ 66 ∷ 67 ∷ 51 ∷ 49 ∷ 41 ∷ 47 ∷ 45 ∷ 44 ∷ 43 ∷ 50 ∷ 46 ∷ []

abbrev pub nexts_3 : List ℕ
nexts_3 = 59 ∷ 60 ∷ 61 ∷ 62 ∷ 63 ∷ 64 ∷ 65 ∷ 66 ∷ 67 ∷ 51 ∷ 49 ∷ 41 ∷ 47 ∷ 45 ∷ 44 ∷ 43 ∷ 50 ∷ 46 ∷ []

abbrev pub nexts_4 : List ℕ
nexts_4 = 60 ∷ 61 ∷ 62 ∷ 63 ∷ 64 ∷ 65 ∷ 66 ∷ 67 ∷ 51 ∷ 49 ∷ 41 ∷ 47 ∷ 45 ∷ 44 ∷ 43 ∷ 50 ∷ 46 ∷ []

abbrev pub nexts_5 : List ℕ
nexts_5 = 62 ∷ 63 ∷ 64 ∷ 65 ∷ 66 ∷ 67 ∷ 51 ∷ 49 ∷ 41 ∷ 47 ∷ 45 ∷ 44 ∷ 43 ∷ 50 ∷ 46 ∷ []

abbrev pub nexts_6 : List ℕ
nexts_6 = 63 ∷ 64 ∷ 65 ∷ 66 ∷ 67 ∷ 51 ∷ 49 ∷ 41 ∷ 47 ∷ 45 ∷ 44 ∷ 43 ∷ 50 ∷ 46 ∷ []

abbrev pub nexts_7 : List ℕ
nexts_7 = 64 ∷ 65 ∷ 66 ∷ 67 ∷ 51 ∷ 49 ∷ 41 ∷ 47 ∷ 45 ∷ 44 ∷ 43 ∷ 50 ∷ 46 ∷ []

abbrev pub nexts_8 : List ℕ
nexts_8 = 65 ∷ 66 ∷ 67 ∷ 51 ∷ 49 ∷ 41 ∷ 47 ∷ 45 ∷ 44 ∷ 43 ∷ 50 ∷ 46 ∷ []

abbrev pub nexts_9 : List ℕ
nexts_9 = 66 ∷ 67 ∷ 51 ∷ 49 ∷ 41 ∷ 47 ∷ 45 ∷ 44 ∷ 43 ∷ 50 ∷ 46 ∷ []

abbrev pub nexts_10 : List ℕ
nexts_10 = 67 ∷ 51 ∷ 49 ∷ 41 ∷ 47 ∷ 45 ∷ 44 ∷ 43 ∷ 50 ∷ 46 ∷ []

abbrev pub nexts_11 : List ℕ
nexts_11 = 51 ∷ 49 ∷ 41 ∷ 47 ∷ 45 ∷ 44 ∷ 43 ∷ 50 ∷ 46 ∷ []

abbrev pub prim_firsts : List ℕ
prim_firsts = 2 ∷ 1 ∷ 40 ∷ 44 ∷ 3 ∷ []

abbrev pub select_nexts : List ℕ
select_nexts = 56 ∷ 55 ∷ 57 ∷ 58 ∷ 59 ∷ 60 ∷ 61 ∷ 62 ∷ 63 ∷ 64 ∷ 65 ∷ 66 ∷ 67 ∷ 51 ∷ 49 ∷ 41 ∷ 47 ∷ 45 ∷ 44 ∷ 43 ∷ 50 ∷ 46 ∷ 48 ∷ []

abbrev pub event_nexts : List ℕ
event_nexts = 46 ∷ 28 ∷ 1 ∷ 44 ∷ 26 ∷ 33 ∷ 36 ∷ []

abbrev pub label_nexts : List ℕ
label_nexts = 46 ∷ 28 ∷ 1 ∷ 44 ∷ 26 ∷ 33 ∷ 36 ∷ 29 ∷ 13 ∷ 14 ∷ 15 ∷ 16 ∷ 12 ∷ 18 ∷ 19 ∷ 20 ∷ 21 ∷ 22 ∷ 23 ∷ 25 ∷ []

abbrev pub if_head_nexts : List ℕ
if_head_nexts = 46 ∷ 28 ∷ 1 ∷ 44 ∷ 26 ∷ 33 ∷ 36 ∷ 13 ∷ 14 ∷ 15 ∷ 16 ∷ 12 ∷ 18 ∷ 19 ∷ 20 ∷ 21 ∷ 22 ∷ 23 ∷ 25 ∷ []

abbrev pub stmt_nexts : List ℕ
stmt_nexts = 46 ∷ 28 ∷ 1 ∷ 44 ∷ 26 ∷ 33 ∷ 36 ∷ 29 ∷ 2 ∷ 40 ∷ 3 ∷ 58 ∷ 68 ∷ 63 ∷ 64 ∷ 65 ∷ 35 ∷ 34 ∷ 13 ∷ 14 ∷ 15 ∷ 16 ∷ 12 ∷ 18 ∷ 19 ∷ 20 ∷ 21 ∷ 22 ∷ 23 ∷ 25 ∷ 24 ∷ 11 ∷ []

abbrev pub citem_nexts : List ℕ
citem_nexts = 2 ∷ 1 ∷ 40 ∷ 44 ∷ 3 ∷ 58 ∷ 68 ∷ 63 ∷ 64 ∷ 65 ∷ 35 ∷ 34 ∷ []

abbrev pub mitem_nexts : List ℕ
mitem_nexts = 13 ∷ 14 ∷ 15 ∷ 16 ∷ 12 ∷ 18 ∷ 19 ∷ 20 ∷ 21 ∷ 22 ∷ 23 ∷ 1 ∷ 25 ∷ 26 ∷ 24 ∷ 29 ∷ 11 ∷ []

abbrev pub stmt_firsts : List ℕ
stmt_firsts = 46 ∷ 28 ∷ 1 ∷ 44 ∷ 26 ∷ 33 ∷ 36 ∷ []

abbrev pub citem_firsts : List ℕ
citem_firsts = 2 ∷ 1 ∷ 40 ∷ 44 ∷ 3 ∷ 58 ∷ 68 ∷ 63 ∷ 64 ∷ 65 ∷ 35 ∷ []

abbrev pub mitem_firsts : List ℕ
mitem_firsts = 13 ∷ 14 ∷ 15 ∷ 16 ∷ 12 ∷ 18 ∷ 19 ∷ 20 ∷ 21 ∷ 22 ∷ 23 ∷ 1 ∷ 25 ∷ 26 ∷ []

abbrev pub gbody_firsts : List ℕ
gbody_firsts = 13 ∷ 14 ∷ 15 ∷ 16 ∷ 12 ∷ 18 ∷ 19 ∷ 20 ∷ 21 ∷ 22 ∷ 23 ∷ 1 ∷ 25 ∷ 26 ∷ 28 ∷ []

abbrev pub conns_firsts : List ℕ
conns_firsts = 2 ∷ 1 ∷ 40 ∷ 44 ∷ 3 ∷ 58 ∷ 68 ∷ 63 ∷ 64 ∷ 65 ∷ 53 ∷ []

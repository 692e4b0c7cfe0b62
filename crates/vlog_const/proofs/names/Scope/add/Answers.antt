use Rattle.std.proofs.Common.{◌≡◌, ◌∙◌, ◌++◌, ◌∷◌, [], Option, Some, None, is_some, false, sym, ap}
use Rattle.std.specs.Prelude.{option_map, bytes_eq}
use Rattle.indexmap.proofs.MapLemmas.{insert_entry-absent, absent_from_lookup}
use Rattle.vlog_const.specs.Names.{found}
use Rattle.vlog_const.proofs.names.Scope.add.Goals as goal

none_there : {X Y : Type 0} → (f : X → Y) (o : Option X) (p : Option Y) → option_map f o ≡ p → is_some o ≡ false → p ≡ None
none_there f None p e h = sym e
none_there f (Some x) p e h = cc

pub returns-clause-list : goal.returns-clause-list
returns-clause-list c =
    let same : c.self.inside.names.entries ≡ c.args.self.now = c.self.view_is in
    let none : found c.args.name c.self.inside.names.entries ≡ None = ap (found c.args.name) same ∙ none_there _ _ _ c.find.ensures (sym c.is_some.ensures ∙ c.if-is_some.false) in
    c.in_ok-insert.ensures.entries
    ∙ insert_entry-absent bytes_eq c.args.name c.args.what c.self.inside.names.entries (absent_from_lookup (bytes_eq c.args.name) c.self.inside.names.entries none)
    ∙ ap (λ es. es ++ (c.args.name, c.args.what) ∷ []) same

use Rattle.rdl_text.proofs.property.common_row.Goals as goal

pub returns : goal.returns
returns c = cc

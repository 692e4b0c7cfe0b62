use Rattle.rdl_text.proofs.property.access_row.Goals as goal

pub returns : goal.returns
returns c = cc

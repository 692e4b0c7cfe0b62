use Rattle.rdl_text.proofs.text.check_text.Goals as goal

pub returns-in-Some-clause-refused : goal.returns-in-Some-clause-refused
returns-in-Some-clause-refused c = c.in_ok-names.ensures.first _ c.in-Some.is

pub returns-in-Some-properties-clause-refused : goal.returns-in-Some-properties-clause-refused
returns-in-Some-properties-clause-refused c = (c.in_ok-names.ensures.none c.in_default.is, c.in_ok-properties.ensures.first _ c.in-Some-properties.is)

pub returns-in-Some-values-clause-refused : goal.returns-in-Some-values-clause-refused
returns-in-Some-values-clause-refused c =
    (c.in_ok-names.ensures.none c.in_default.is, c.in_ok-properties.ensures.none c.in_default-properties.is, c.in_ok-values.ensures.first _ c.in-Some-values.is)

pub returns-clause-fine : goal.returns-clause-fine
returns-clause-fine c = record {
  names = c.in_ok-names.ensures.none c.in_default.is;
  properties = c.in_ok-properties.ensures.none c.in_default-properties.is;
  values = c.in_ok-values.ensures.none c.in_default-values.is;
}

-- What a denial is about, as the program lends it.
use Rattle.tp_why.specs.declared.denial.Asked.{Asked}
use Rattle.tp_why.specs.Denial as denial

abbrev pub lent_asked : Asked → denial.Asked
lent_asked asked = record {
  action = asked.action;
  item = asked.item.now;
  policy = asked.policy.now;
}

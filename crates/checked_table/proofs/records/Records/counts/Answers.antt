use Rattle.std.proofs.Common.{sym}
use Rattle.checked_table.proofs.Holding.{fits_of, states_are, transitions_are, intervals_are, modes_are, rules_are, actions_are}
use Rattle.checked_table.proofs.records.Records.counts.Goals as goal

pub returns : goal.returns
returns c =
    let r = c.args.self.now in
    let fits = (fits_of r).0 in
    rw c.sections-sections.ensures (record {
      states = sym (states_are r);
      transitions = sym (transitions_are r);
      intervals = sym (intervals_are r);
      modes = sym (modes_are r);
      rules = sym (rules_are r);
      actions = sym (actions_are r);
      least = (fits.0.1, fits.3.1, fits.4.1);
      most = (fits.0.2, fits.1.2, fits.2.2, fits.3.2, fits.4.2, fits.5.2);
    })

use Rattle.ct_words.proofs.scheme.scheme_laws.Goals as goal

pub returns : goal.returns
returns g c = record {
  positive = g.met.S.Scheme.positive c.args.scheme.now;
  ones = g.met.S.Scheme.ones c.args.scheme.now;
  within = g.met.S.Scheme.within c.args.scheme.now;
  itself = g.met.S.Scheme.itself c.args.scheme.now;
  small = g.met.S.Scheme.small c.args.scheme.now;
}

use Rattle.listing.proofs.Listings.{Listing}
use Rattle.listing.proofs.listed.put_all.Given as goal

abbrev pub invariant-loop-x : goal.invariant-loop-x
invariant-loop-x g l = Listing g.T.Written.text g.W.Write.write_str_gives l.yielded l.initial.f l.f

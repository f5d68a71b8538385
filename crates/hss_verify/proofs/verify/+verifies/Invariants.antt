use Rattle.hss_verify.proofs.verify.+verifies.Given as goal

abbrev pub decreases-verifies : goal.decreases-verifies
decreases-verifies l = l.links

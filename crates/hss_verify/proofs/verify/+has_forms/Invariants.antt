use Rattle.hss_verify.proofs.verify.+has_forms.Given as goal

abbrev pub decreases-has_forms : goal.decreases-has_forms
decreases-has_forms l = l.links

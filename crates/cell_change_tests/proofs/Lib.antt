mod FittingLemmas

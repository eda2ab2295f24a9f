mod WrittenLemmas

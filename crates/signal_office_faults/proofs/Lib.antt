mod PaddedLemmas

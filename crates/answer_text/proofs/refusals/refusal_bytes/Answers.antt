-- The table of the code words each cause.
use Rattle.std.proofs.Common.{refl, append-nil, append_assoc}
use Rattle.answer_text.proofs.refusals.refusal_bytes.Goals as goal

pub refusal_by-requires : goal.refusal_by-requires
refusal_by-requires c = (
  record { numbered = refl; worded = λ refusal. rw append-nil refl },
  (
    record { numbered = refl; worded = λ refusal. refl },
    (
      record { numbered = refl; worded = λ refusal. refl },
      (
        record { numbered = refl; worded = λ refusal. rw (append-nil, append_assoc) refl },
        (
          record { numbered = refl; worded = λ refusal. refl },
          (
            record { numbered = refl; worded = λ refusal. refl },
            (
              record { numbered = refl; worded = λ refusal. rw append-nil refl },
              (
                record { numbered = refl; worded = λ refusal. rw append-nil refl },
                (
                  record { numbered = refl; worded = λ refusal. refl },
                  (
                    record { numbered = refl; worded = λ refusal. refl },
                    (
                      record { numbered = refl; worded = λ refusal. rw append-nil refl },
                      (
                        record { numbered = refl; worded = λ refusal. rw append-nil refl },
                        (
                          record { numbered = refl; worded = λ refusal. refl },
                          (
                            record { numbered = refl; worded = λ refusal. rw append-nil refl },
                            (
                              record { numbered = refl; worded = λ refusal. rw append-nil refl },
                              (
                                record { numbered = refl; worded = λ refusal. rw append-nil refl },
                                (
                                  record { numbered = refl; worded = λ refusal. rw append-nil refl },
                                  (
                                    record { numbered = refl; worded = λ refusal. rw append-nil refl },
                                    (
                                      record { numbered = refl; worded = λ refusal. refl },
                                      (
                                        record { numbered = refl; worded = λ refusal. rw append-nil refl },
                                        (
                                          record { numbered = refl; worded = λ refusal. rw append-nil refl },
                                          (
                                            record { numbered = refl; worded = λ refusal. rw append-nil refl },
                                            (
                                              record { numbered = refl; worded = λ refusal. refl },
                                              (
                                                record { numbered = refl; worded = λ refusal. refl },
                                                (
                                                  record { numbered = refl; worded = λ refusal. rw append-nil refl },
                                                  tt,
                                                ),
                                              ),
                                            ),
                                          ),
                                        ),
                                      ),
                                    ),
                                  ),
                                ),
                              ),
                            ),
                          ),
                        ),
                      ),
                    ),
                  ),
                ),
              ),
            ),
          ),
        ),
      ),
    ),
  ),
)

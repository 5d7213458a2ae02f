-- The list with every other call is covered, and none of it is refused, computed. Assumes nothing.
use mathlib.Core.Path.{◌≡◌, refl}
use mathlib.Core.Bool.{false}
use Rattle.model.specs.Store.{new}
use Rattle.book.specs.Covered.{Covered}
use Rattle.book.specs.Every.{every_call, any_refused}
use Rattle.book.proofs.Computing.{computed, computed_besides, computed_looks}

pub none_refused : any_refused every_call (new 2) ≡ false
unfolding computed computed_besides computed_looks
none_refused = refl

pub every_covered : Covered every_call (new 2)
unfolding computed computed_besides computed_looks
every_covered = (
  λ a. refl,
  (
    λ a. refl,
    (
      λ a. refl,
      (
        λ a. refl,
        (
          λ a. refl,
          (
            λ a. refl,
            (
              λ a. refl,
              (
                λ a. refl,
                (
                  λ a. refl,
                  (
                    λ a. refl,
                    (
                      λ a. refl,
                      (
                        λ a. refl,
                        (
                          λ a. refl,
                          (
                            λ a. refl,
                            (
                              λ a. refl,
                              (
                                λ a. refl,
                                (
                                  λ a. refl,
                                  (
                                    λ a. refl,
                                    (
                                      λ a. refl,
                                      (
                                        λ a. refl,
                                        (
                                          λ a. refl,
                                          (
                                            λ a. refl,
                                            (λ a. refl, (λ a. refl, (λ a. refl, tt))),
                                          ),
                                        ),
                                      ),
                                    ),
                                  ),
                                ),
                              ),
                            ),
                          ),
                        ),
                      ),
                    ),
                  ),
                ),
              ),
            ),
          ),
        ),
      ),
    ),
  ),
)

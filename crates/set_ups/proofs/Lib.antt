mod SetUpLaws
